-- `osu_difficulty_object::cursor::run` meets its contract. Assumes nothing.
use Prim.Native.Nat.{◌-◌}
use mathlib.Core.Path.{◌≡◌}
use Rattle.osu_object.specs.Osu.{nested_list}
use Rattle.osu_difficulty_object.specs.Cursor.{run_of}
use Rattle.osu_difficulty_object.proofs.cursor.run.Given as goal

abbrev pub invariant-loop-k : goal.invariant-loop-k
invariant-loop-k l =
    run_of (nested_list l.slider.chart.now l.slider.lay l.slider.runs) l.stack_offset l.scaling_factor l.moved (l.count - l.k) l.s
    ≡ run_of (nested_list l.slider.chart.now l.slider.lay l.slider.runs) l.stack_offset l.scaling_factor l.moved l.count l.initial.s
