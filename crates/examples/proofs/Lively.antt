-- A book with a rule for each of two levels, and a short run of it, which is computed. Assumes nothing.
use Rattle.std.proofs.Common.{ℕ, List, [], ◌∷◌, ◌++◌, replicate, pos, Ok, refl, arith, lit<, lit≤}
use Rattle.std.specs.List.{ContainsAt as Has}
use Rattle.std.proofs.ByRecursion.{has_append_right}
use Rattle.std.proofs.lemmas.Bool.{cond_both}
use Rattle.meaning.specs.Book.{Rule, Book}
use Rattle.meaning.specs.Levels.{Order, Meets}
use Rattle.meaning.proofs.Listed.{sound_empty}
use Rattle.levels.specs.Orders.{ladder, ladder_meets}
use Rattle.runs.specs.Call.{Call, Answer, Input, Take, Apply, Applied}
use Rattle.runs.specs.Promises.{Accepted, ran, told}
use Rattle.runs.specs.State.{State}
use Rattle.runs.specs.Step.{step}
use Rattle.runs.specs.View.{within_level}
use Rattle.examples.specs.Books.{low_high, on_change, becomes, one}
use Rattle.examples.specs.Lively.{Busy, Lively}
use Rattle.examples.proofs.Computes.{flows_compute, rules_compute, runs_compute}
use Rattle.examples.proofs.Ladders.{ladder_lawful, ladder_meeting}
use Rattle.examples.proofs.Starts.{start_with, started, well_formed, levels_inside}

-- what is told of later calls is told
told_later : (o : Order) (M : Meets) (b : Book) (k : ℕ) (a : Answer) (cs ds : List Call) (s : State) → Has (told o M b k ds (ran o M b cs s)) a → Has (told o M b k (cs ++ ds) s) a
unfolding ran told
told_later o M b k a [] ds s h = h
told_later o M b k a (c ∷ cs) ds s h =
    let later = told_later o M b k a cs ds (step o M b c s).after h in
    cond_both (within_level o b k c) _ _ (λ answers. Has answers a)
    (λ _. has_append_right ((step o M b c s).answer ∷ []) _ a later)
    (λ _. later)

-- a change of resource 0 sets resource 0 by lane 0, and resource 1 by lane 1
abbrev rules : List Rule
rules = on_change 0 (becomes 0 one ∷ []) ∷ on_change 0 (becomes 1 one ∷ []) ∷ []

abbrev book : Book
book = low_high rules []

abbrev start : State
start = start_with (pos 0)

-- one input more than a lane has room for
abbrev inputs : List Call
inputs = replicate 17 (Input 0 0 (pos 1))

-- then one update of each lane is taken and applied
abbrev services : List Call
services = Take 0 ∷ Apply 0 0 ∷ Take 1 ∷ Apply 1 0 ∷ []

accepted : Accepted (ladder 2) (ladder_meets 2) book
unfolding flows_compute rules_compute
accepted =
    record {
      lawful = ladder_lawful 2 (omega arith) (omega arith);
      meeting = ladder_meeting 2;
      formed = well_formed rules [] (omega arith) (omega arith) (refl, refl, refl, refl);
      levels = levels_inside rules [];
      sound = sound_empty (ladder 2) book (omega arith) refl;
    }

-- lane 0: the second answer to the services
low : Busy (ladder 2) (ladder_meets 2) book start (inputs ++ services) 0
unfolding runs_compute
low =
    let told_of = told_later (ladder 2) (ladder_meets 2) book 0 (Ok (Applied 0 0 0)) inputs services start in
    record { enters = lit≤ tt; loses = lit≤ tt; leaves = lit≤ tt; applies = (0, 0, 0, refl, told_of (1, lit< tt, λ _. refl)) }

-- lane 1: the fourth
high : Busy (ladder 2) (ladder_meets 2) book start (inputs ++ services) 1
unfolding runs_compute
high =
    let told_of = told_later (ladder 2) (ladder_meets 2) book 1 (Ok (Applied 0 1 0)) inputs services start in
    record { enters = lit≤ tt; loses = lit≤ tt; leaves = lit≤ tt; applies = (0, 1, 0, refl, told_of (3, lit< tt, λ _. refl)) }

pub lively : Lively
unfolding rules_compute
lively =
    record {
      order = ladder 2;
      meets = ladder_meets 2;
      book = book;
      accepted = accepted;
      start = start;
      started = started rules [] (pos 0) refl;
      calls = inputs ++ services;
      low = low;
      high = high;
    }
