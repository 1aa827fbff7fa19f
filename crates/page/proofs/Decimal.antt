-- What the decimal text of a number is made of.
use Rattle.std.proofs.Common.{◌≡◌, ℕ, ◌+◌, ◌-◌, ◌^◌, ◌<◌, ◌≤◌, Bool, cond, List, [], ◌∷◌, map, sym, refl, ap, ◌∙◌, ⊎_elim, arith}
use Rattle.std.specs.List.{AllByRecursion as All}
use Rattle.std.specs.Fmt.{decimal as printed}
use Rattle.std.specs.Int.Digits.{digits_of, number_from_digits}
use Rattle.std.proofs.lemmas.Fmt.{decimal_digit, decimal-digits_of}
use Rattle.std.proofs.lemmas.Int.Digits.{all_below_base_digits_of, number_digits_of}
use Rattle.std.proofs.ByRecursion.{All-map, All-weaker}
use Rattle.std.proofs.lemmas.Bool.{cases_eq, ne_eqb}
use Rattle.page.specs.Text.{decimal}

abbrev shown : List ℕ → List ℕ
shown ds = map (λ d. 48 + d) ds

decimal_none : decimal 0 ≡ 48 ∷ []
unfolding decimal
decimal_none = refl

decimal_some : (n : ℕ) → 0 < n → decimal n ≡ shown (digits_of 10 n)
unfolding decimal
decimal_some n h = ap (λ (b : Bool). cond b (48 ∷ []) (shown (digits_of 10 n))) (ne_eqb n 0 (λ e. omega arith))

-- std prints a number of 64 bits so
pub decimal_printed : (n : ℕ) → n < 2 ^ 64 → printed n ≡ decimal n
decimal_printed n h = ⊎_elim zero' more (cases_eq n 0)
  where
    zero' : n ≡ 0 → printed n ≡ decimal n
    zero' e = rw (e, decimal_none) (decimal_digit 0 (omega arith))

    more : (n ≡ 0 → ⊥) → printed n ≡ decimal n
    more ne = decimal-digits_of n (omega arith) h ∙ sym (decimal_some n (omega arith))

-- a code of a digit
abbrev pub Digit : ℕ → Type 0
Digit c = (48 ≤ c) × (c < 58)

pub digits_decimal : (n : ℕ) → All Digit (decimal n)
digits_decimal n = ⊎_elim zero' more (cases_eq n 0)
  where
    zero' : n ≡ 0 → All Digit (decimal n)
    zero' e = rw (e, decimal_none) ((omega arith, omega arith), tt)

    more : (n ≡ 0 → ⊥) → All Digit (decimal n)
    more ne =
        rw (decimal_some n (omega arith))
        (All-map Digit (λ d. 48 + d) (digits_of 10 n)
        (All-weaker (λ d. d < 10) (λ d. Digit (48 + d)) (λ d h. (omega arith, omega arith)) (digits_of 10 n) (all_below_base_digits_of 10 n (omega arith))))

-- the number that a text shows
unfoldable pub read : List ℕ → ℕ
read text = number_from_digits 10 (map (λ c. c - 48) text)

read_shown : (ds : List ℕ) → map (λ c. c - 48) (shown ds) ≡ ds
read_shown [] = refl
read_shown (d ∷ ds) = let e : 48 + d - 48 ≡ d = omega arith in rw (e, read_shown ds)

pub read_decimal : (n : ℕ) → read (decimal n) ≡ n
unfolding read
read_decimal n = ⊎_elim zero' more (cases_eq n 0)
  where
    zero' : n ≡ 0 → number_from_digits 10 (map (λ c. c - 48) (decimal n)) ≡ n
    zero' e = rw (e, decimal_none)

    more : (n ≡ 0 → ⊥) → number_from_digits 10 (map (λ c. c - 48) (decimal n)) ≡ n
    more ne = rw (decimal_some n (omega arith), read_shown (digits_of 10 n)) (number_digits_of 10 n (omega arith))

pub same_from_decimal : (m n : ℕ) → decimal m ≡ decimal n → m ≡ n
same_from_decimal m n e = sym (read_decimal m) ∙ ap read e ∙ read_decimal n
