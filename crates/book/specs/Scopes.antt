-- What a scope of the code means. Assumes nothing.
use Rattle.book.specs.declared.scope.Scope.{Scope}
use Rattle.meaning.specs.Expression as meant

abbrev pub scoped : Scope → meant.Scope
scoped s = record { resources = s.resources; receiver = s.receiver }
