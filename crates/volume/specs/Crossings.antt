-- The bounds of a crossing between ratios.
use Rattle.std.specs.Prelude.{◌≡◌, ℕ, ◌-◌, ◌*◌, ◌^◌, ◌<◌, ◌≤◌, false, refl}
use Rattle.std.proofs.Common.{arith, mul-pos}
use Rattle.std.proofs.lemmas.Nat.{mul-le}
use Rattle.std.proofs.lemmas.Bool.{leb-false}
use Rattle.volume.specs.declared.samples.Ratio.{Ratio}
use Rattle.volume.specs.Kinds.{under, ratio_inside, ratio_crossing}

-- what a product of two parts leaves over, times a part
pub amount : (a b x c d : ℕ) → x ≡ a * b → a ≤ 4095 → b ≤ 4095 → d ≤ 4095 → (x - c) * d ≤ 68669157375
amount a b x c d e p q r =
    let f = mul-le a b 4095 4095 p q in mul-le (x - c) d 16769025 4095 (omega arith) r

pub ratio_proper : (a b h : Ratio) → ratio_inside b h ≡ false → ((ratio_crossing a b h).num < (ratio_crossing a b h).den) × ((ratio_crossing a b h).den ≤ 2 ^ 40)
ratio_proper a b h e =
    let below = leb-false (h.n * b.d) (b.n * h.d) e in
    let some : 0 < under b h * a.d = mul-pos {m = under b h} {n = a.d} (omega arith) a.within.1.0 in
    let f = amount a.n h.d _ (h.n * a.d) b.d refl a.within.0 h.within.1.1 b.within.1.1 in
    let g = amount h.n b.d _ (b.n * h.d) a.d refl h.within.0 b.within.1.1 a.within.1.1 in
    (omega arith, omega arith)
