-- Order 5: "a word of flags for autopilot, relax, touch device, hidden, flashlight, traceable and fade-only circles, bits 0 to 6 in that order and others unread".
-- Definitions only.
use Rattle.std.specs.Prelude.{ℕ, ◌/◌, ◌%◌, Bool, eqb, Float}
use Rattle.std.specs.Bool.{then_some}
use Rattle.skills_rating.specs.declared.mods.Mods.{Mods}

-- with attraction strength and start scale, each of which may be absent
unfoldable pub mods_of : ℕ → Bool → Float → Bool → Float → Mods
mods_of word attracts strength deflates scale = record {
  autopilot = eqb (word % 2) 1;
  relax = eqb (word / 2 % 2) 1;
  touch_device = eqb (word / 4 % 2) 1;
  hidden = eqb (word / 8 % 2) 1;
  flashlight = eqb (word / 16 % 2) 1;
  traceable = eqb (word / 32 % 2) 1;
  fade_only = eqb (word / 64 % 2) 1;
  attraction = then_some attracts strength;
  start_scale = then_some deflates scale;
}
