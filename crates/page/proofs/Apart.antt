-- A page says which mesh it shows: each part of its text ends where it says itself.
use Rattle.std.proofs.Common.{◌≡◌, ℕ, ◌+◌, ◌/◌, ◌%◌, List, [], ◌∷◌, ◌++◌, length, sym, refl, ◌∙◌, subst, append_assoc, append-nil, arith}
use Rattle.std.specs.List.{flat_map, AllByRecursion as All}
use Rattle.page.specs.Text.{decimal, four, coordinate, vertex_line, face_line, header, Mesh, page}
use Rattle.page.proofs.Decimal.{Digit, digits_decimal, same_from_decimal}

-- texts of digits alone end at the first other code
pub cut : (xs ys : List ℕ) (s : ℕ) (x y : List ℕ) → All Digit xs → All Digit ys → (Digit s → ⊥) → xs ++ (s ∷ x) ≡ ys ++ (s ∷ y) → (xs ≡ ys) × (x ≡ y)
cut [] [] s x y p q no' e = (refl, cc)
cut [] (b ∷ ys) s x y p q no' e = let h : s ≡ b = cc in absurd (no' (subst Digit (sym h) q.0))
cut (a ∷ xs) [] s x y p q no' e = let h : a ≡ s = cc in absurd (no' (subst Digit h p.0))
cut (a ∷ xs) (b ∷ ys) s x y p q no' e =
    let h : a ≡ b = cc in
    let t : xs ++ (s ∷ x) ≡ ys ++ (s ∷ y) = cc in
    let r = cut xs ys s x y p.1 q.1 no' t in
    (cc (h, r.0), r.1)

-- `f` writes texts that end where they say themselves, whatever follows
abbrev pub Ends : {A : Type 0} → (A → List ℕ) → Type 0
Ends {A} f = (a b : A) (x y : List ℕ) → f a ++ x ≡ f b ++ y → (a ≡ b) × (x ≡ y)

-- a number, with what comes first behind it
number_ends : (m n s : ℕ) (x y : List ℕ) → (Digit s → ⊥) → decimal m ++ (s ∷ x) ≡ decimal n ++ (s ∷ y) → (m ≡ n) × (x ≡ y)
number_ends m n s x y no' e =
    let r = cut (decimal m) (decimal n) s x y (digits_decimal m) (digits_decimal n) no' e in
    (same_from_decimal m n r.0, r.1)

pub coordinate_ends : Ends coordinate
unfolding coordinate
coordinate_ends m n x y e =
    let r = number_ends (m / 10000) (n / 10000) 46 (four m ++ x) (four n ++ y) (λ d. omega arith) (simp append_assoc at e) in
    let t = r.1 in
    let h = r.0 in
    let a : 48 + m / 1000 % 10 ≡ 48 + n / 1000 % 10 = cc in
    let b : 48 + m / 100 % 10 ≡ 48 + n / 100 % 10 = cc in
    let c : 48 + m / 10 % 10 ≡ 48 + n / 10 % 10 = cc in
    let d : 48 + m % 10 ≡ 48 + n % 10 = cc in
    let z : x ≡ y = cc in
    (omega arith, z)

rest : {a b : ℕ} {x y : List ℕ} → a ∷ x ≡ b ∷ y → x ≡ y
rest e = cc

pub vertex_ends : Ends vertex_line
unfolding vertex_line
vertex_ends v w x y e =
    let r = coordinate_ends v.x w.x _ _ (simp append_assoc at e) in
    let s = coordinate_ends v.y w.y _ _ (rest r.1) in
    let u = coordinate_ends v.z w.z _ _ (rest s.1) in
    ((λ i. record { x = r.0 i; y = s.0 i; z = u.0 i }), rest u.1)

space : Digit 32 → ⊥
space d = omega arith

pub face_ends : Ends face_line
unfolding face_line
face_ends v w x y e =
    let r = number_ends v.a w.a 32 _ _ space (rest (rest (simp append_assoc at e))) in
    let s = number_ends v.b w.b 32 _ _ space r.1 in
    let u = number_ends v.c w.c 10 _ _ (λ d. omega arith) s.1 in
    ((λ i. record { a = r.0 i; b = s.0 i; c = u.0 i }), u.1)

-- as many lines on both sides
pub lines_end : {A : Type 0} (f : A → List ℕ) → Ends f → (as' bs : List A) (x y : List ℕ) → length as' ≡ length bs → flat_map f as' ++ x ≡ flat_map f bs ++ y → (as' ≡ bs) × (x ≡ y)
lines_end f ends [] [] x y l e = (refl, e)
lines_end f ends [] (b ∷ bs) x y l e = absurd (omega arith)
lines_end f ends (a ∷ as') [] x y l e = absurd (omega arith)
lines_end f ends (a ∷ as') (b ∷ bs) x y l e =
    let r = ends a b (flat_map f as' ++ x) (flat_map f bs ++ y) (sym (append_assoc (f a) (flat_map f as') x) ∙ e ∙ append_assoc (f b) (flat_map f bs) y) in
    let s = lines_end f ends as' bs x y (omega arith) r.1 in
    ((λ i. r.0 i ∷ s.0 i), s.1)

pub header_ends : (v f v' f' : ℕ) (x y : List ℕ) → header v f ++ x ≡ header v' f' ++ y → (v ≡ v') × (f ≡ f') × (x ≡ y)
unfolding header
header_ends v f v' f' x y e =
    let r = number_ends v v' 32 _ _ space (rest (rest (rest (rest (simp append_assoc at e))))) in
    let s = number_ends f f' 32 _ _ space r.1 in
    (r.0, s.0, rest (rest s.1))

pub tells_apart : (m n : Mesh) → page m ≡ page n → m ≡ n
unfolding page
tells_apart m n e =
    let h = header_ends (length m.vertices) (length m.triangles) (length n.vertices) (length n.triangles) _ _ (simp append_assoc at e) in
    let v = lines_end vertex_line vertex_ends m.vertices n.vertices (flat_map face_line m.triangles) (flat_map face_line n.triangles) h.0 h.2 in
    let f = lines_end face_line face_ends m.triangles n.triangles [] [] h.1 (append-nil (flat_map face_line m.triangles) ∙ v.1 ∙ sym (append-nil (flat_map face_line n.triangles))) in
    λ i. record { vertices = v.0 i; triangles = f.0 i }
