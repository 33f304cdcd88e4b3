-- `station::difficulty_read_aim_parts` meets its contract: the header has the settings. Assumes nothing.
use mathlib.Core.Path.{sym, ap, ◌∙◌}
use mathlib.Core.List.{[]}
use lib.ListN.{length}
use Rattle.num_tables.specs.Parts.{part, put}
use Rattle.calls.specs.Calls.{Answer, Outcome, refuse, state}
use Rattle.calls.specs.Conditions.{read_detail}
use Rattle.calls.specs.Afresh.{aim_parts}
use Rattle.calls_players.specs.Statement.{Reads}
use Rattle.station.specs.Codes.{answer_code, numbers_of, aim_width}
use Rattle.station.proofs.Rooms.{put_none, short_into, own_into}
use Rattle.station.proofs.difficulty_read_aim_parts.Goals as goal

pub returns-then-chart-lt-HEADER_SIZE : goal.returns-then-chart-lt-HEADER_SIZE
unfolding refuse
returns-then-chart-lt-HEADER_SIZE c =
    let a = c.args in
    let p = sym (ap (λ (x : Outcome). x.answer) (short_into aim_width (length a.out.now) (read_detail aim_parts a.place) (state a.chart.now a.records.now []) c.if-chart-lt-HEADER_SIZE.true)) in
    record {
      answer = c.code.ensures ∙ ap answer_code p;
      out = put_none a.out.now ∙ ap (λ (x : Answer). put 0 (numbers_of x) a.out.now) p;
    }

pub returns : goal.returns
unfolding part Reads
returns c =
    let a = c.args in
    let p = ap (λ (x : Outcome). x.answer) (own_into aim_width (length a.out.now) (read_detail aim_parts a.place) (state a.chart.now a.records.now []) c.if-chart-lt-HEADER_SIZE.false tt) in
    let e = c.difficulty_read_aim_parts_as.ensures in
    record {
      answer = e.answer ∙ ap answer_code p;
      out = e.out ∙ ap (λ (x : Answer). put 0 (numbers_of x) a.out.now) p;
    }
