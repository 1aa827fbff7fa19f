-- The kinds of the six tetrahedra, as the program holds them. Assumes nothing.
use Rattle.std.proofs.Common.{◌≡◌, ℕ, ◌<◌, Bool, true, false, List, [], get_or, sym, refl, ap, ◌∙◌}
use mir.Val.{bool_byte}
use Rattle.std.proofs.lemmas.List.{get_or-map}
use Rattle.grid.specs.declared.marching.Kind.{Kind}
use Rattle.grid.specs.declared.marching.TheConstants.{KINDS}
use Rattle.grid.specs.Cells.{tetrahedra, corner, odd, value}
use Rattle.grid.specs.Patterns.{flag}

abbrev pub unknown : Kind
unknown = record { corners = []; odd = false }

-- the corner code at a position
pub kind_corner : (t m : ℕ) → t < 6 → get_or (get_or KINDS.now t unknown).corners m 0 ≡ corner t m
unfolding tetrahedra corner
kind_corner t m h = ap (λ (l : List ℕ). get_or l m 0) (sym (get_or-map (λ (k : Kind). k.corners) KINDS.now t unknown [] h))

-- whether it is odd
pub kind_odd : (t : ℕ) → t < 6 → (get_or KINDS.now t unknown).odd ≡ odd t
unfolding odd
kind_odd t h = sym (get_or-map (λ (k : Kind). k.odd) KINDS.now t unknown false h)

-- a flag as a number
byte_value : (b : Bool) → bool_byte b ≡ value b
unfolding value
byte_value true = refl
byte_value false = refl

-- the flag of the corner at a position, as a number
pub flag_value : (flags : List Bool) (t m k v : ℕ) → t < 6 → k ≡ get_or (get_or KINDS.now t unknown).corners m 0 → v ≡ bool_byte (flag flags k) → v ≡ value (flag flags (corner t m))
flag_value flags t m k v h e f = f ∙ byte_value (flag flags k) ∙ ap (λ (c : ℕ). value (flag flags c)) (e ∙ kind_corner t m h)
