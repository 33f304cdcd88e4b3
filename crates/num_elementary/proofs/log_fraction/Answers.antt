-- `num_elementary::log_fraction` meets its contract: antt works the forty bits of each constant out. Assumes nothing.
use Rattle.std.proofs.Common.{◌≡◌, ℕ, ◌^◌, ◌<◌, refl, ap, ◌∙◌, arith, lit<}
use Rattle.num_elementary.specs.Log.{log_bits}
use Rattle.num_elementary.proofs.log_fraction.Goals as goal

-- the bits of a constant k are those of m, where m is k
known : (k bits m : ℕ) → bits ≡ log_bits 40 k 0 → bits < 2 ^ 40 → k ≡ m → (bits ≡ log_bits 40 m 0) × (bits < 2 ^ 40)
known k bits m e h is = (e ∙ ap (λ (x : ℕ). log_bits 40 x 0) is, h)

pub returns-in-4611686018427387904 : goal.returns-in-4611686018427387904
unfolding log_bits
returns-in-4611686018427387904 c = known (2 ^ 62) 0 c.args.m refl (lit< tt) (omega arith)

pub returns-in-5534023222112865280 : goal.returns-in-5534023222112865280
unfolding log_bits
returns-in-5534023222112865280 c = known (0x4CCC_CCCC_CCCC_CC00) 0x43_5639_0AC7 c.args.m refl (lit< tt) (omega arith)

pub returns-in-6148914691236516864 : goal.returns-in-6148914691236516864
unfolding log_bits
returns-in-6148914691236516864 c = known (0x5555_5555_5555_5400) 0x6A_3FE5_C604 c.args.m refl (lit< tt) (omega arith)

pub returns-in-7378697629483821056 : goal.returns-in-7378697629483821056
unfolding log_bits
returns-in-7378697629483821056 c = known (0x6666_6666_6666_6800) 0xAD_961E_D0CB c.args.m refl (lit< tt) (omega arith)

pub returns-in-5270498306774157312 : goal.returns-in-5270498306774157312
unfolding log_bits
returns-in-5270498306774157312 c = known (0x4924_9249_2492_4800) 0x31_5130_157F c.args.m refl (lit< tt) (omega arith)

pub returns-in-8198552921648689152 : goal.returns-in-8198552921648689152
unfolding log_bits
returns-in-8198552921648689152 c = known (0x71C7_1C71_C71C_7000) 0xD4_7FCB_8C08 c.args.m refl (lit< tt) (omega arith)
