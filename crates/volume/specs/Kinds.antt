-- The three kinds of samples: which are inside at a level, where the surface crosses between two, and what a stored entry stands for.
use Rattle.std.specs.Prelude.{◌≡◌, ℕ, ◌+◌, ◌-◌, ◌*◌, ◌^◌, ◌≤◌, Bool, true, false, cond, ◌&&◌, Some, None, Option, ◌==◌, nat_le, nat_lt, refl}
use Rattle.std.proofs.lemmas.Bool.{leb-true, ltb-true, and_parts}
use Rattle.refusal.specs.declared.refusals.Refusal.{Refusal}
use Rattle.refusal.specs.declared.refusals.Refusal.TheVariants.{RatioPart}
use Rattle.refusal.specs.declared.refusals.Part.TheVariants.{Numerator, Denominator}
use Rattle.volume.specs.declared.fractions.Fraction.{Fraction}
use Rattle.volume.specs.declared.samples.Density.{Density}
use Rattle.volume.specs.declared.samples.Label.{Label}
use Rattle.volume.specs.declared.samples.Ratio.{Ratio}
use Rattle.volume.specs.declared.samples.RatioParts.{RatioParts}

-- what a passed test makes, and nothing where the test fails
abbrev pub if_so : {X : Type 0} (b : Bool) → (b ≡ true → X) → Option X
if_so true make = Some (make refl)
if_so false make = None

-- a density is inside when it is at least the level
abbrev pub density_inside : Density → ℕ → Bool
density_inside a h = nat_le h a.value

-- (a - h) / (a - b)
abbrev pub density_crossing : Density → Density → ℕ → Fraction
density_crossing a b h = record { num = a.value - h; den = a.value - b.value }

-- every number of 16 bits is a density
abbrev pub density_stored : ℕ → Option Density
density_stored n = if_so (nat_lt n (2 ^ 16)) (λ e. record { value = n; fits = ltb-true n (2 ^ 16) e })

-- a label is inside when it is the level's
abbrev pub label_inside : Label → ℕ → Bool
label_inside a h = a.value == h

-- half_way, whatever the labels
abbrev pub label_crossing : Label → Label → ℕ → Fraction
label_crossing a b h = record { num = 1; den = 2 }

abbrev pub label_stored : ℕ → Option Label
label_stored n = Some (record { value = n })

abbrev pub parts : ℕ → ℕ → RatioParts
parts n d = record { n = n; d = d }

-- why two numbers are refused as a ratio: the first part that is above 4,095, or 0 below the line
abbrev pub ratio_refusal : RatioParts → Option Refusal
ratio_refusal p = cond (nat_le p.n 4095) (cond (nat_le 1 p.d && nat_le p.d 4095) None (Some (RatioPart Denominator))) (Some (RatioPart Numerator))

-- by how much n/d is above the level p/q, n·q - p·d, where it is above, and by how much below, p·d - n·q, where it is below
abbrev pub over : Ratio → Ratio → ℕ
over a h = a.n * h.d - h.n * a.d

abbrev pub under : Ratio → Ratio → ℕ
under a h = h.n * a.d - a.n * h.d

-- a ratio is inside when it is at least the level
abbrev pub ratio_inside : Ratio → Ratio → Bool
ratio_inside a h = nat_le (h.n * a.d) (a.n * h.d)

-- s₁·d₂ / (s₁·d₂ - s₂·d₁), for s₁ the amount by which a is over the level and -s₂ that by which b is under it
abbrev pub ratio_crossing : Ratio → Ratio → Ratio → Fraction
ratio_crossing a b h = record { num = over a h * b.d; den = over a h * b.d + under b h * a.d }

-- both parts are at most 4,095, and the second is at least 1
abbrev pub makes_ratio : RatioParts → Bool
makes_ratio p = nat_le p.n 4095 && (nat_le 1 p.d && nat_le p.d 4095)

pub limits : (p : RatioParts) → makes_ratio p ≡ true → (p.n ≤ 4095) × ((1 ≤ p.d) × (p.d ≤ 4095))
limits p e =
    let both = and_parts (nat_le p.n 4095) (nat_le 1 p.d && nat_le p.d 4095) e in
    let below = and_parts (nat_le 1 p.d) (nat_le p.d 4095) both.1 in
    (leb-true p.n 4095 both.0, (leb-true 1 p.d below.0, leb-true p.d 4095 below.1))

-- the ratio of two parts, and none where they do not make one
abbrev pub ratio_stored : RatioParts → Option Ratio
ratio_stored p = if_so (makes_ratio p) (λ e. record { n = p.n; d = p.d; within = limits p e })
