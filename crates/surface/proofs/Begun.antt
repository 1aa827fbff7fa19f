-- A surface that begins: its empty map and its no vertices are tied. Assumes nothing.
use Rattle.std.proofs.Common.{rules, false, is_ok, Ok, Err, Result, refl, ◌≡◌, ℕ, ◌+◌, ◌-◌, ◌≤◌, List, length, replicate, set, Some, None, Option, sym, ap, ◌∙◌, subst, arith}
use Rattle.std.specs.Result.{IsOk}
use native.Mathlib.Nat.{ℕ_set}
use native.Mathlib.Bridge.{le_prop}
use mathlib.Core.Logic.{∥∥₁_elim, ∥∥₁_prop}
use lib.ListN.{length-replicate}
use Rattle.grid.specs.declared.geometry.GridEdge.{GridEdge}
use Rattle.grid.specs.EdgeKeys.{edge_meaning, edge_hash, vertex_on, with_vertex}
use Rattle.keymap.specs.declared.table.Entry.{Entry}
use Rattle.keymap.specs.Frees.{free}
use Rattle.keymap.proofs.Frees.{free_cleared}
use Rattle.keymap.proofs.Lookups.{sound_cleared, lookup_cleared}
use Rattle.mesh.specs.declared.records.Vertex.{Vertex}
use Rattle.surface.specs.States.{Numbering, numbering}
use Rattle.surface.specs.Ties.{Tied}
use Rattle.mesh.specs.declared.records.Coordinates.{Coordinates}
use Rattle.surface.specs.Fits.{Fits}
use Rattle.surface.proofs.Ties.{tied_next}

pub vertex_on_cleared : (n : ℕ) (e : GridEdge) → vertex_on (replicate n None) e ≡ None
unfolding vertex_on
vertex_on_cleared n e = lookup_cleared edge_meaning edge_hash n (edge_meaning e)

none_some : (o : Option ℕ) (k : ℕ) → o ≡ None → o ≡ Some k → ⊥
none_some o k p q = let z : ◌≡◌ {A = ℕ} 0 1 = cc in omega arith

pub tied_begun : (n : ℕ) (vs : List Vertex) → Tied (numbering (replicate n None) vs 0)
tied_begun n vs = record {
  within = omega arith;
  used = (let f = free_cleared GridEdge n in let l = length-replicate {A = Option (Entry GridEdge)} n None in omega arith);
  sound = sound_cleared edge_meaning edge_hash n;
  below = λ e k h. absurd (none_some (vertex_on (replicate n None) e) k (vertex_on_cleared n e) h);
  keyed = λ e k d h. absurd (none_some (vertex_on (replicate n None) e) k (vertex_on_cleared n e) h);
  held = λ k d h. absurd (omega arith);
}

-- the same of what the program holds
pub tied_start : (es : List (Option (Entry GridEdge))) (n : ℕ) (vs : List Vertex) (m : ℕ) → es ≡ replicate n None → m ≡ 0 → ∥ Tied (numbering es vs m) ∥₁
tied_start es n vs m p q = subst (λ (s : Numbering). ∥ Tied s ∥₁) (λ i. numbering (sym p i) vs (sym q i)) ∣ tied_begun n vs ∣₁

-- what the tie says of the free entries
pub free_within : (s : Numbering) (n : ℕ) → n ≡ length s.entries → ∥ Tied s ∥₁ → s.count ≤ n
free_within s n l t = ∥∥₁_elim t le_prop (λ q. let u = q.used in omega arith)

pub free_left : (s : Numbering) (n : ℕ) → n ≡ length s.entries → ∥ Tied s ∥₁ → n - s.count ≡ free s.entries
free_left s n l t = ∥∥₁_elim t (ℕ_set _ _) (λ q. let u = q.used in omega arith)

-- an edge that has no vertex gets the next one, and the tie holds again
pub tied_again : (place : GridEdge → Coordinates) (s : Numbering) (e : GridEdge) (es : List (Option (Entry GridEdge))) (vs : List Vertex) (m : ℕ) {at : Coordinates} → ∥ Tied s ∥₁ → Fits s e
    → None ≡ vertex_on s.entries e → es ≡ with_vertex s.entries e s.count → vs ≡ set s.vertices s.count (record { edge = e; at = at }) → m ≡ s.count + 1 → at ≡ place e → ∥ Tied (numbering es vs m) ∥₁
tied_again place s e es vs m t f h a b c p =
    subst (λ (q : Numbering). ∥ Tied q ∥₁)
    (sym (λ i. numbering (a i) ((b ∙ ap (λ (q : Coordinates). set s.vertices s.count (record { edge = e; at = q })) p) i) (c i)))
    (∥∥₁_elim t ∥∥₁_prop (λ k. ∣ tied_next place s e k (sym h) (f.entry (sym h)) (f.vertex (sym h)) ∣₁))

-- what is no refusal went well
pub ok_unless : {T E : Type 0} (r : Result T E) → (is_ok r ≡ false → ⊥) → IsOk r
ok_unless (Ok x) h = search rules
ok_unless (Err e) h = absurd (h refl)
