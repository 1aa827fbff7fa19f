-- One step of naming: an edge has a vertex already, or gets the next one. Assumes nothing.
use Rattle.std.proofs.Common.{◌≡◌, ℕ, ◌+◌, ◌<◌, ◌≤◌, List, [], length, get_or, take, set, Some, None, Option, sym, refl, ap, ◌∙◌}
use Rattle.std.proofs.lemmas.List.{take_all}
use Rattle.std.proofs.lemmas.List.Sums.{fold_more}
use Rattle.grid.specs.declared.geometry.GridEdge.{GridEdge}
use Rattle.grid.specs.declared.geometry.Triangle.{Triangle}
use Rattle.grid.specs.EdgeKeys.{vertex_on, with_vertex}
use Rattle.keymap.specs.declared.table.Entry.{Entry}
use Rattle.mesh.specs.declared.records.Coordinates.{Coordinates}
use Rattle.mesh.specs.declared.records.Vertex.{Vertex}
use Rattle.surface.specs.States.{Numbering, Tables, numbering, tables, named, named_by, named_all, number, number_by, added, added_all}

module _ (place : GridEdge → Coordinates) (s : Numbering) (e : GridEdge) where
  pub named_old : (n : ℕ) → Some n ≡ vertex_on s.entries e → s ≡ named place s e
  unfolding named
  named_old n h = ap (λ (o : Option ℕ). named_by place o s e) h

  pub named_new : (es : List (Option (Entry GridEdge))) (vs : List Vertex) (n : ℕ) (at : Coordinates) → None ≡ vertex_on s.entries e → es ≡ with_vertex s.entries e s.count
      → at ≡ place e → vs ≡ set s.vertices s.count (record { edge = e; at = at }) → n ≡ s.count + 1 → numbering es vs n ≡ named place s e
  unfolding named
  named_new es vs n at h x p v c =
      (λ i. numbering (x i) ((v ∙ ap (λ (q : Coordinates). set s.vertices s.count (record { edge = e; at = q })) p) i) (c i)) ∙ ap (λ (o : Option ℕ). named_by place o s e) h

pub number_old : (s : Numbering) (e : GridEdge) (n : ℕ) → Some n ≡ vertex_on s.entries e → n ≡ number s e
unfolding number
number_old s e n h = ap (λ (o : Option ℕ). number_by o s.count) h

pub number_new : (s : Numbering) (e : GridEdge) → None ≡ vertex_on s.entries e → s.count ≡ number s e
unfolding number
number_new s e h = ap (λ (o : Option ℕ). number_by o s.count) h

module _ (place : GridEdge → Coordinates) where
  -- a triangle whose corners were named one after the other
  pub added_made : (s s1 s2 s3 : Numbering) (ts us : List (Triangle ℕ)) (m n : ℕ) (τ : Triangle GridEdge) (a b c : ℕ)
      → s1 ≡ named place s τ.a → s2 ≡ named place s1 τ.b → s3 ≡ named place s2 τ.c
      → a ≡ number s τ.a → b ≡ number s1 τ.b → c ≡ number s2 τ.c
      → us ≡ set ts m (record { a = a; b = b; c = c }) → n ≡ m + 1 → tables s3 us n ≡ added place (tables s ts m) τ
  unfolding added
  added_made s s1 s2 s3 ts us m n τ a b c e1 e2 e3 ea eb ec eu en =
      let f2 : s2 ≡ named place (named place s τ.a) τ.b = e2 ∙ ap (λ (q : Numbering). named place q τ.b) e1 in
      let f3 : s3 ≡ named_all place s τ = e3 ∙ ap (λ (q : Numbering). named place q τ.c) f2 in
      let fb : b ≡ number (named place s τ.a) τ.b = eb ∙ ap (λ (q : Numbering). number q τ.b) e1 in
      let fc : c ≡ number (named place (named place s τ.a) τ.b) τ.c = ec ∙ ap (λ (q : Numbering). number q τ.c) f2 in
      (λ i. tables (f3 i) ((eu ∙ (λ j. set ts m (record { a = ea j; b = fb j; c = fc j }))) i) (en i))

  pub added_none : (s : Tables) → s ≡ added_all place s []
  unfolding added_all
  added_none s = refl

  pub added_more : (s t u : Tables) (τs : List (Triangle GridEdge)) (i : ℕ) (d : Triangle GridEdge) → i < length τs
      → t ≡ added_all place s (take i τs) → u ≡ added place t (get_or τs i d) → u ≡ added_all place s (take (i + 1) τs)
  unfolding added_all
  added_more s t u τs i d b e f = f ∙ ap (λ (q : Tables). added place q (get_or τs i d)) e ∙ sym (fold_more (added place) s τs i d b)

  pub added_all_of : (s t : Tables) (τs : List (Triangle GridEdge)) (i : ℕ) → length τs ≤ i → t ≡ added_all place s (take i τs) → t ≡ added_all place s τs
  added_all_of s t τs i b e = e ∙ ap (added_all place s) (take_all i τs b)

  pub added_count : (s t : Tables) (τ : Triangle GridEdge) → t ≡ added place s τ → t.count ≡ s.count + 1
  unfolding added
  added_count s t τ e = ap (λ (q : Tables). q.count) e
