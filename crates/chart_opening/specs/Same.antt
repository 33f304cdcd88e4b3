-- Two lists that hold the same header bytes have the same layout and settings, and of the same length the same condition 1. Assumes nothing.
use Rattle.std.specs.Prelude.{ℕ, ◌≤◌, ◌≡◌, List, length}
use Rattle.std.proofs.Common.{arith}
use Rattle.num_floats.specs.Same.{Same, shift, u32_same, f64_same, f32_same}
use Rattle.chart_fields.specs.Limits.{header_size}
use Rattle.chart_fields.specs.declared.Layout.{Layout}
use Rattle.chart_opening.specs.Limits.{settings_start, settings_size}
use Rattle.chart_opening.specs.Header.{format_of, layout_of, offsets_ok, frame_ok, header_ok, settings_at, settings_of}

pub settings_same : {a b : List ℕ} {p q n : ℕ} → Same a p b q n → settings_size ≤ n → settings_at a p ≡ settings_at b q
unfolding settings_at
settings_same s h =
    cc (
      f64_same s (omega arith),
      f64_same (shift s 8 8 (omega arith)) (omega arith),
      f64_same (shift s 16 8 (omega arith)) (omega arith),
      f64_same (shift s 24 8 (omega arith)) (omega arith),
      f64_same (shift s 32 8 (omega arith)) (omega arith),
      f32_same (shift s 40 4 (omega arith)) (omega arith),
      u32_same (shift s 44 4 (omega arith)) (omega arith),
    )

-- all but the settings and the flags among them
module _ {a b : List ℕ} (s : Same a 0 b 0 settings_start) where
  format_same : format_of a ≡ format_of b
  format_same = u32_same (shift s 28 4 (omega arith)) (omega arith)

  pub layout_front_same : layout_of a ≡ layout_of b
  unfolding layout_of
  layout_front_same =
      cc (
        u32_same s (omega arith),
        u32_same (shift s 4 4 (omega arith)) (omega arith),
        u32_same (shift s 8 4 (omega arith)) (omega arith),
        format_same,
      )

  offsets_same : length a ≡ length b → (lay : Layout) → offsets_ok a lay ≡ offsets_ok b lay
  unfolding offsets_ok
  offsets_same l lay =
      cc (
        l,
        u32_same (shift s 12 4 (omega arith)) (omega arith),
        u32_same (shift s 16 4 (omega arith)) (omega arith),
        u32_same (shift s 20 4 (omega arith)) (omega arith),
        u32_same (shift s 24 4 (omega arith)) (omega arith),
      )

  pub frame_same : length a ≡ length b → frame_ok a ≡ frame_ok b
  unfolding frame_ok
  frame_same l = simp (l, layout_front_same, offsets_same l (layout_of b), format_same)

module _ {a b : List ℕ} (s : Same a 0 b 0 header_size) where
  pub layout_of_same : layout_of a ≡ layout_of b
  layout_of_same = layout_front_same (shift s 0 settings_start (omega arith))

  pub settings_of_same : settings_of a ≡ settings_of b
  settings_of_same = settings_same (shift s settings_start settings_size (omega arith)) (omega arith)

  pub header_same : length a ≡ length b → header_ok a ≡ header_ok b
  unfolding header_ok
  header_same l = simp (frame_same (shift s 0 settings_start (omega arith)) l, u32_same (shift s 76 4 (omega arith)) (omega arith))
