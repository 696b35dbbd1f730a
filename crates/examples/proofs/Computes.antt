-- What to open in order to compute: a proof whose `unfolding` line names one of these opens all that it names. Assumes nothing.
use Rattle.std.specs.Fmt.{digits}
use Rattle.meaning.specs.Book.{gathered}
use Rattle.meaning.specs.Expression.{reads, asks, stack_after, operated, right_from, encoded_expression}
use Rattle.meaning.specs.Flow.{set_by, read_for, watched, forbidden}
use Rattle.meaning.specs.FlowList.{flow_list}
use Rattle.meaning.specs.WellFormed.{every, unset, distinct}
use Rattle.runs.specs.Clauses.{first_where}
use Rattle.runs.specs.Discovery.{places, formed, settled, arrived}
use Rattle.runs.specs.Promises.{ran, told, arrivals, departures}
use Rattle.runs.specs.Report.{waiting_below, reported}
use Rattle.runs.specs.State.{discovered, differing, carried_out, serving}
use Rattle.runs.specs.Step.{cells_checked, input_checked, take_checked, spend_checked, serve_checked, report_checked}
use Rattle.runs.specs.Table.{written}
use Rattle.runs.specs.Update.{assigned, met}

-- expressions, flows and lanes
unfoldable pub flows_compute : Unit {0}
unfolding reads asks stack_after operated set_by read_for watched forbidden flow_list met
flows_compute = tt

-- whether rules and clauses are right
unfoldable pub rules_compute : Unit {0}
unfolding gathered reads right_from encoded_expression every unset distinct
rules_compute = tt

-- calls
unfoldable pub runs_compute : Unit {0}
unfolding flows_compute every first_where places formed settled arrived discovered differing carried_out serving written assigned waiting_below reported digits cells_checked input_checked take_checked spend_checked serve_checked report_checked ran told arrivals departures
runs_compute = tt
