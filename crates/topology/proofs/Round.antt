-- A ring of posts, moved to C, is a ring of sides.
use Rattle.std.proofs.Common.{◌≡◌, ℕ, zero, suc, ◌<◌, Bool, false, T, List, [], ◌∷◌, map, length, get_or, sym, refl, ap, ◌∙◌, subst, inl, inr, eqb→eq, ltb→lt}
use lib.ListN.{length-map}
use Rattle.std.proofs.lemmas.List.{get_or-map}
use Rattle.grid.specs.declared.geometry.GridEdge.{GridEdge}
use Rattle.grid.specs.declared.geometry.Point.{Point}
use Rattle.grid.specs.declared.geometry.Triangle.{Triangle}
use Rattle.grid.specs.Points.{◌⊕◌}
use Rattle.grid.specs.Cells.{tet_triangles}
use Rattle.topology.specs.Sides.{start, end, rest, none, Side, Lives, its_triangle, source, target, third}
use Rattle.topology.specs.Rings.{Step, Leads, stay, on}
use Rattle.topology.proofs.Finite.{all, imp, left, right, given, or_cases, all_at}
use Rattle.topology.proofs.Moved.{shift, shift_cancel, eq_edge, edge_eq, eq_edge_from}
use Rattle.topology.proofs.Places.{Place, Stands, its}
use Rattle.topology.proofs.Whole.{side, side_lives, side_triangle}
use Rattle.topology.proofs.Star.{Tet, no_tet, Post, leaves, meets, thirds, size, same_post, good, steps, chain, listed, complete, closes}

post_eq : (p q : Post) → T (same_post p q) → p ≡ q
unfolding same_post
post_eq p q h =
    let k = right _ _ h in
    let a : p.seat ≡ q.seat = eqb→eq _ _ (left _ _ h) in
    let b : p.tri ≡ q.tri = eqb→eq _ _ (left _ _ k) in
    let c : p.turn ≡ q.turn = eqb→eq _ _ (right _ _ k) in
    λ i. record { seat = a i; tri = b i; turn = c i }

-- a triangle moved by C
unfoldable pub carry : Point → Triangle GridEdge → Triangle GridEdge
carry C τ = record { a = shift C τ.a; b = shift C τ.b; c = shift C τ.c }

start_carry : (C : Point) (j : ℕ) (τ : Triangle GridEdge) → start j (carry C τ) ≡ shift C (start j τ)
unfolding start carry
start_carry C zero τ = refl
start_carry C (suc zero) τ = refl
start_carry C (suc (suc j)) τ = refl

end_carry : (C : Point) (j : ℕ) (τ : Triangle GridEdge) → end j (carry C τ) ≡ shift C (end j τ)
unfolding end carry
end_carry C zero τ = refl
end_carry C (suc zero) τ = refl
end_carry C (suc (suc j)) τ = refl

rest_carry : (C : Point) (j : ℕ) (τ : Triangle GridEdge) → rest j (carry C τ) ≡ shift C (rest j τ)
unfolding rest carry
rest_carry C zero τ = refl
rest_carry C (suc zero) τ = refl
rest_carry C (suc (suc j)) τ = refl

leads_through : (inside : Point → Bool) {s q r : Side} → Leads inside s q → Leads inside q r → Leads inside s r
leads_through inside stay m = m
leads_through inside (on h l) m = on h (leads_through inside l m)

unfoldable pub place : List Tet → Point → Post → Place
place ss C p = record { base = C ⊕ (get_or ss p.seat no_tet).base; tet = (get_or ss p.seat no_tet).tet; tri = p.tri; turn = p.turn }

-- the side of a post
unfoldable pub site : (Point → Bool) → List Tet → Point → Post → Side
site inside ss C p = side inside (place ss C p)

-- the triangles at C are those of the list, moved by C
pub record Moved (inside : Point → Bool) (C : Point) (ss : List Tet) (ts : List (List (Triangle GridEdge))) (k : ℕ) : Type 0 where
  pub tet : (get_or ss k no_tet).tet < 6
  pub tris : tet_triangles inside (C ⊕ (get_or ss k no_tet).base) (get_or ss k no_tet).tet ≡ map (carry C) (get_or ts k [])

pub record Good (ts : List (List (Triangle GridEdge))) (e : GridEdge) (p : Post) : Type 0 where
  pub seat : p.seat < length ts
  pub tri : p.tri < size ts p.seat
  pub turn : p.turn < 3
  pub leaves : T (eq_edge (leaves ts p) e)

good_of : (ts : List (List (Triangle GridEdge))) (e : GridEdge) (p : Post) → T (good ts e p) → Good ts e p
unfolding good
good_of ts e p h =
    let h1 = right _ _ h in
    let h2 = right _ _ h1 in
    record { seat = ltb→lt _ _ (left _ _ h); tri = ltb→lt _ _ (left _ _ h1); turn = ltb→lt _ _ (left _ _ h2); leaves = right _ _ h2 }

chain_good : (ts : List (List (Triangle GridEdge))) (e : GridEdge) (p : Post) (ps : List Post) (z : Post) → T (chain ts e p ps z) → Good ts e p
unfolding chain
chain_good ts e p [] z h = good_of ts e p (left _ _ h)
chain_good ts e p (q ∷ qs) z h = good_of ts e p (left _ _ h)

module _ (inside : Point → Bool) (C : Point) (ss : List Tet) (ts : List (List (Triangle GridEdge))) (e : GridEdge) (hw : (k : ℕ) → k < length ts → Moved inside C ss ts k) where
  many : (k : ℕ) → k < length ts → length (tet_triangles inside (C ⊕ (get_or ss k no_tet).base) (get_or ss k no_tet).tet) ≡ size ts k
  unfolding size
  many k h = ap length (hw k h).tris ∙ length-map (get_or ts k []) (carry C)

  stands : (p : Post) → p.seat < length ts → p.tri < size ts p.seat → p.turn < 3 → Stands inside (place ss C p)
  unfolding place
  stands p k l t = record { tet = (hw p.seat k).tet; tri = subst (λ n. p.tri < n) (sym (many p.seat k)) l; turn = t }

  pub lives : (p : Post) → Good ts e p → Lives inside (site inside ss C p)
  unfolding site
  lives p g = side_lives inside (place ss C p) (stands p g.seat g.tri g.turn)

  picked : (p : Post) → p.seat < length ts → p.tri < size ts p.seat → p.turn < 3 →
      its_triangle inside (site inside ss C p) ≡ carry C (get_or (get_or ts p.seat []) p.tri none)
  unfolding site place its size
  picked p k l t =
      side_triangle inside (place ss C p) (stands p k l t)
      ∙ ap (λ l. get_or l p.tri none) (hw p.seat k).tris ∙ get_or-map (carry C) (get_or ts p.seat []) p.tri none none l

  source_at : (p : Post) → p.seat < length ts → p.tri < size ts p.seat → p.turn < 3 → source inside (site inside ss C p) ≡ shift C (leaves ts p)
  unfolding source site side place leaves
  source_at p k l t = ap (start p.turn) (picked p k l t) ∙ start_carry C p.turn _

  target_at : (p : Post) → p.seat < length ts → p.tri < size ts p.seat → p.turn < 3 → target inside (site inside ss C p) ≡ shift C (meets ts p)
  unfolding target site side place meets
  target_at p k l t = ap (end p.turn) (picked p k l t) ∙ end_carry C p.turn _

  third_at : (p : Post) → p.seat < length ts → p.tri < size ts p.seat → p.turn < 3 → third inside (site inside ss C p) ≡ shift C (thirds ts p)
  unfolding third site side place thirds
  third_at p k l t = ap (rest p.turn) (picked p k l t) ∙ rest_carry C p.turn _

  pub apex : (p : Post) → Good ts e p → source inside (site inside ss C p) ≡ shift C e
  apex p g = source_at p g.seat g.tri g.turn ∙ ap (shift C) (edge_eq _ _ g.leaves)

  step : (p q : Post) → Good ts e p → Good ts e q → T (steps ts p q) → Step inside (site inside ss C p) (site inside ss C q)
  unfolding steps
  step p q g k h = record {
    lives = lives q k;
    apex = apex q k ∙ sym (apex p g);
    shares = target_at q k.seat k.tri k.turn ∙ ap (shift C) (edge_eq _ _ h) ∙ sym (third_at p g.seat g.tri g.turn);
  }

  abbrev To : Post → Post → Type 0
  To p q = Leads inside (site inside ss C p) (site inside ss C q)

  through : (p : Post) (ps : List Post) (z : Post) → Good ts e z → T (chain ts e p ps z) → To p z
  unfolding chain
  through p [] z g h = on (step p z (chain_good ts e p [] z h) g (right _ _ h)) stay
  through p (q ∷ qs) z g h =
      let h1 = right _ _ h in
      let h2 = right _ _ h1 in
      on (step p q (chain_good ts e p (q ∷ qs) z h) (chain_good ts e q qs z h2) (left _ _ h1)) (through q qs z g h2)

  -- from each place of the chain to its end, and from its start to each
  down : (p : Post) (ps : List Post) (z : Post) → Good ts e z → T (chain ts e p ps z) → (r : Post) → T (listed r (p ∷ ps)) → To r z
  unfolding chain listed
  down p [] z g h r l =
      elim (or_cases (same_post p r) false l) [
        | inl a ↦ subst (λ r. To r z) (post_eq p r a) (through p [] z g h)
        | inr a ↦ absurd a
      ]
  down p (q ∷ qs) z g h r l =
      elim (or_cases (same_post p r) (listed r (q ∷ qs)) l) [
        | inl a ↦ subst (λ r. To r z) (post_eq p r a) (through p (q ∷ qs) z g h)
        | inr a ↦ down q qs z g (right _ _ (right _ _ h)) r a
      ]

  up : (p : Post) (ps : List Post) (z : Post) → T (chain ts e p ps z) → (r : Post) → T (listed r (p ∷ ps)) → To p r
  unfolding chain listed
  up p [] z h r l =
      elim (or_cases (same_post p r) false l) [
        | inl a ↦ subst (To p) (post_eq p r a) stay
        | inr a ↦ absurd a
      ]
  up p (q ∷ qs) z h r l =
      elim (or_cases (same_post p r) (listed r (q ∷ qs)) l) [
        | inl a ↦ subst (To p) (post_eq p r a) stay
        | inr a ↦
            let h1 = right _ _ h in
            let h2 = right _ _ h1 in
            on (step p q (chain_good ts e p (q ∷ qs) z h) (chain_good ts e q qs z h2) (left _ _ h1)) (up q qs z h2 r a)
      ]

  follows : (p : Post) (ps : List Post) (z : Post) → Good ts e z → T (chain ts e p ps z) → (r : Post) → T (listed r (p ∷ ps)) → (q : Side) × Step inside (site inside ss C r) q
  unfolding chain listed
  follows p [] z g h r l =
      elim (or_cases (same_post p r) false l) [
        | inl a ↦ subst (λ r. (q : Side) × Step inside (site inside ss C r) q) (post_eq p r a) (site inside ss C z, step p z (chain_good ts e p [] z h) g (right _ _ h))
        | inr a ↦ absurd a
      ]
  follows p (q ∷ qs) z g h r l =
      let h1 = right _ _ h in
      let h2 = right _ _ h1 in
      elim (or_cases (same_post p r) (listed r (q ∷ qs)) l) [
        | inl a ↦ subst (λ r. (q : Side) × Step inside (site inside ss C r) q) (post_eq p r a) (site inside ss C q, step p q (chain_good ts e p (q ∷ qs) z h) (chain_good ts e q qs z h2) (left _ _ h1))
        | inr a ↦ follows q qs z g h2 r a
      ]

  found : (ps : List Post) → T (complete ts e ps) → (p : Post) → Good ts e p → T (listed p ps)
  unfolding complete
  found ps h p g =
      let f : ℕ → ℕ → ℕ → Bool = λ k i j. imp (eq_edge (leaves ts (record { seat = k; tri = i; turn = j })) e) λ _. listed (record { seat = k; tri = i; turn = j }) ps in
      let h1 = all_at (length ts) (λ k. all (size ts k) λ i. all 3 λ j. f k i j) h p.seat g.seat in
      let h2 = all_at (size ts p.seat) (λ i. all 3 λ j. f p.seat i j) h1 p.tri g.tri in
      let h3 = all_at 3 (f p.seat p.tri) h2 p.turn g.turn in
      given (eq_edge (leaves ts p) e) (λ _. listed p ps) h3 g.leaves

  pub round : (a : Post) (ps : List Post) → T (closes ts e a ps) → (p q : Post) → Good ts e p → Good ts e q → To p q
  unfolding closes
  round a ps h p q g k =
      let c = left _ _ h in
      let f = found (a ∷ ps) (right _ _ h) in
      leads_through inside (down a ps a (chain_good ts e a ps a c) c p (f p g)) (up a ps a c q (f q k))

  pub onward : (a : Post) (ps : List Post) → T (closes ts e a ps) → (p : Post) → Good ts e p → (q : Side) × Step inside (site inside ss C p) q
  unfolding closes
  onward a ps h p g =
      let c = left _ _ h in
      follows a ps a (chain_good ts e a ps a c) c p (found (a ∷ ps) (right _ _ h) p g)

  pub begun : (a : Post) (ps : List Post) → T (closes ts e a ps) → Good ts e a
  unfolding closes
  begun a ps h = chain_good ts e a ps a (left _ _ h)

  -- a standing place at a seat, with the source moved from e, is a good post
  pub taken : (p : Post) → p.seat < length ts → Stands inside (place ss C p) → source inside (site inside ss C p) ≡ shift C e → Good ts e p
  unfolding place
  taken p k l h =
      let i : p.tri < size ts p.seat = subst (λ n. p.tri < n) (many p.seat k) l.tri in
      record { seat = k; tri = i; turn = l.turn; leaves = eq_edge_from _ _ (shift_cancel C _ _ (sym (source_at p k i l.turn) ∙ h)) }
