-- Positions in f32: document 01, "Positions, paths, numbers". Each operation is rounded once.
use Rattle.std.specs.Float.Ieee as Ieee
use Rattle.std.specs.Prelude.{Float}
use Rattle.std.specs.Float.{binary32}
use Rattle.num_roots.specs.Root.{root_of}
use Rattle.osu_pos.specs.declared.Pos.{Pos}

infixl 65 ◌⊕₃◌ ◌⊖₃◌ ◌+ₚ◌ ◌-ₚ◌
infixl 70 ◌⊗₃◌ ◌*ₚ◌
-- f32's operations
abbrev pub ◌⊕₃◌ : Float → Float → Float
a ⊕₃ b = Ieee.add binary32 a b

abbrev pub ◌⊖₃◌ : Float → Float → Float
a ⊖₃ b = Ieee.sub binary32 a b

abbrev pub ◌⊗₃◌ : Float → Float → Float
a ⊗₃ b = Ieee.mul binary32 a b

abbrev pub ◌+ₚ◌ : Pos → Pos → Pos
p +ₚ q = record { x = p.x ⊕₃ q.x; y = p.y ⊕₃ q.y }

abbrev pub ◌-ₚ◌ : Pos → Pos → Pos
p -ₚ q = record { x = p.x ⊖₃ q.x; y = p.y ⊖₃ q.y }

abbrev pub ◌*ₚ◌ : Pos → Float → Pos
p *ₚ k = record { x = p.x ⊗₃ k; y = p.y ⊗₃ k }

abbrev pub dot_of : Pos → Pos → Float
dot_of p q = p.x ⊗₃ q.x ⊕₃ p.y ⊗₃ q.y

abbrev pub det_of : Pos → Pos → Float
det_of p q = p.x ⊗₃ q.y ⊖₃ p.y ⊗₃ q.x

-- the root of x × x + y × y
unfoldable pub length_of : Pos → Float
length_of p = root_of binary32 (dot_of p p)
