-- What an accepted replacement tells (`taken` of proofs/Accepted.antt): of its arguments, and that the new chart opens as the old one did. Assumes nothing.
use Rattle.std.specs.Prelude.{ℕ, ◌+◌, ◌≤◌, ◌<◌, ◌≡◌, List, length}
use Rattle.chart_fields.specs.Objects.{object_at}
use Rattle.chart_opening.proofs.Header.{holds}
use Rattle.chart_opening.specs.Accepted.{header_ok_lem}
use Rattle.chart_opening.specs.Header.{layout_of}
use Rattle.chart_opening.specs.Conditions.{Opens}
use Rattle.chart_replacing.specs.Replace.{put_object}
use Rattle.chart_replacing.specs.Replaced as R

pub record Taken (s : List ℕ) (place : ℕ) (object : List ℕ) : Type 0 where
  pub opens : Opens s
  pub below : place < (layout_of s).n
  pub long : length object ≡ (layout_of s).object_size
  pub becomes : Opens (put_object place object s)

-- its place lies in the chart
pub place_fits : {s : List ℕ} {place : ℕ} {object : List ℕ} → Taken s place object → object_at (layout_of s) place + length object ≤ length s
place_fits {s} {place} {object} t = R.fits s place object (holds s (header_ok_lem s t.opens)) t.below t.long
