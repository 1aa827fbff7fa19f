-- A sample is stored under its own numbers: a bound that goes with them has one proof only.
use Rattle.std.proofs.Common.{◌≡◌, ◌^◌, ◌<◌, ◌≤◌, Bool, true, false, ◌&&◌, ltb, leb, Some, refl, ap}
use mathlib.Core.HLevel.{is_prop→PathP}
use native.Mathlib.Bridge.{le_prop}
use Rattle.std.proofs.lemmas.Bool.{false≢true, lt-ltb, le-leb, and_from}
use Rattle.volume.specs.declared.samples.Density.{Density}
use Rattle.volume.specs.declared.samples.Ratio.{Ratio}
use Rattle.volume.specs.Kinds.{if_so, density_stored, ratio_stored, parts, makes_ratio}

if_so_passed : {X : Type 0} (b : Bool) (make : b ≡ true → X) (x : X) → b ≡ true → ((e : b ≡ true) → make e ≡ x) → if_so b make ≡ Some x
if_so_passed true make x e each = ap Some (each refl)
if_so_passed false make x e each = absurd (false≢true e)

pub density_≡ : (a b : Density) → a.value ≡ b.value → a ≡ b
density_≡ a b e = λ i. record { value = e i; fits = is_prop→PathP (λ i. e i < 2 ^ 16) (λ i. le_prop) a.fits b.fits i }

pub density_stored_is : (d : Density) → density_stored d.value ≡ Some d
density_stored_is d = if_so_passed (ltb d.value (2 ^ 16)) _ d (lt-ltb d.value (2 ^ 16) d.fits) (λ e. density_≡ _ d refl)

pub ratio_≡ : (a b : Ratio) → a.n ≡ b.n → a.d ≡ b.d → a ≡ b
ratio_≡ a b e f =
    λ i. record {
      n = e i;
      d = f i;
      within = (
        is_prop→PathP (λ i. e i ≤ 4095) (λ i. le_prop) a.within.0 b.within.0 i,
        (
          is_prop→PathP (λ i. 1 ≤ f i) (λ i. le_prop) a.within.1.0 b.within.1.0 i,
          is_prop→PathP (λ i. f i ≤ 4095) (λ i. le_prop) a.within.1.1 b.within.1.1 i,
        ),
      );
    }

pub ratio_stored_is : (a : Ratio) → ratio_stored (parts a.n a.d) ≡ Some a
ratio_stored_is a =
    if_so_passed (makes_ratio (parts a.n a.d)) _ a
    (and_from (leb a.n 4095) (leb 1 a.d && leb a.d 4095) (le-leb a.n 4095 a.within.0)
    (and_from (leb 1 a.d) (leb a.d 4095) (le-leb 1 a.d a.within.1.0) (le-leb a.d 4095 a.within.1.1)))
    (λ e. ratio_≡ _ a refl refl)
