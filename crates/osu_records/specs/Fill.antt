-- Document 01, "What each call answers": opening writes entries 1 to N - 1 only, and an edit some of them.
use Rattle.std.specs.Prelude.{ℕ, ◌-◌, List, Float}
use Rattle.num_tables.specs.Parts.{fill}
use Rattle.chart_fields.specs.declared.Layout.{Layout}
use Rattle.chart_opening.specs.declared.Settings.{Settings}
use Rattle.osu_difficulty_object.specs.Record.{chart_record}
use Rattle.osu_records.specs.Rows.{row_of}

-- the row of place j, worked out afresh
abbrev pub chart_row : List ℕ → Layout → Settings → ℕ → List Float
chart_row s lay set j = row_of (chart_record s lay set j)

-- with entries a to b - 1 made anew
unfoldable pub filled_range : List ℕ → Layout → Settings → ℕ → ℕ → List Float → List Float
filled_range s lay set a b t = fill 16 (chart_row s lay set) a (b - a) t

-- with all of a chart's
unfoldable pub filled : List ℕ → Layout → Settings → List Float → List Float
filled s lay set t = filled_range s lay set 1 lay.n t
