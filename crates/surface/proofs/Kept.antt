-- The calls keep the skin law. Assumes nothing.
use Rattle.std.proofs.Common.{◌≡◌, ℕ, ◌<◌, Bool, true, false, List, ◌∷◌, length, get_or, set, replicate, Ok, Err, Result, sym, ap, ◌∙◌, subst, inl, inr, ⊎_elim, get_or-set_other, get_or-set_same}
use Rattle.std.proofs.lemmas.Bool.{cases_eq}
use Rattle.grid.specs.declared.geometry.Triangle.{Triangle}
use Rattle.refusal.specs.declared.refusals.Refusal.{Refusal}
use Rattle.grid.specs.Points.{Sides}
use Rattle.mesh.specs.declared.records.Vertex.{Vertex}
use Rattle.topology.specs.Crossings.{NoRepeat}
use Rattle.topology.proofs.Members.{In, in_has, has_in}
use Rattle.surface.specs.declared.sizes.Counts.{Counts}
use Rattle.surface.specs.Law.{Bounded, Lawful, BeginsSkin, KeepsSkin}
use Rattle.surface.specs.Marches.{State, Field, March, marched, begun}
use Rattle.surface.specs.Runs.{Run, begin, march, other, ask, accepted_cells}
use Rattle.surface.proofs.Models.{accepted, get_d_replicate, modelled, same_shape, true_false}
use Rattle.surface.proofs.Totals.{run_skin}

-- the marks after a run: true exactly at the cells that it accepted
record Marks (marks : List Bool) (cells : List ℕ) : Type 0 where
  once : NoRepeat cells
  to : (c : ℕ) → In c cells → get_or marks c false ≡ true
  from : (c : ℕ) → get_or marks c false ≡ true → In c cells

one_mark : (marks : List Bool) (cells : List ℕ) (cell : ℕ) → cell < length marks → get_or marks cell false ≡ false → Marks marks cells → Marks (set marks cell true) (cell ∷ cells)
one_mark marks cells cell h u m = record {
  once = (λ k. true_false (get_or marks cell false) (m.to cell (has_in cells cell k)) u, m.once);
  to = λ c i. ⊎_elim
      (λ p. ap (λ (k : ℕ). get_or (set marks cell true) k false) p ∙ get_or-set_same marks cell true false h)
      (λ ne. get_or-set_other marks cell c true false ne ∙ ⊎_elim (λ p. absurd (ne (sym p))) (m.to c) i)
      (cases_eq c cell);
  from = λ c e. ⊎_elim
      (λ p. inl (sym p))
      (λ ne. inr (m.from c (sym (get_or-set_other marks cell c true false ne) ∙ e)))
      (cases_eq c cell);
}

marks_of : (f : Field) (s : State) (r : Run f s) → Marks s.marks (accepted_cells f s r)
unfolding marched begun
marks_of f s (begin marks entries vs ts) = record {
  once = tt;
  to = λ c i. absurd i;
  from = λ c e. true_false (get_or (replicate marks false) c false) e (get_d_replicate marks c);
}
marks_of f t (march {s = s} r cell (Ok n) h) =
    let a = accepted f s cell h.0 in
    subst (λ (l : List Bool). Marks l (cell ∷ accepted_cells f s r)) (sym (ap (λ (q : State). q.marks) h.2)) (one_mark s.marks (accepted_cells f s r) cell a.mark a.unmarked (marks_of f s r))
marks_of f t (march {s = s} r cell (Err e) h) = subst (λ (q : State). Marks q.marks (accepted_cells f s r)) (sym h.1) (marks_of f s r)
marks_of f t (other {s = s} r g d cell (Ok n) h) = absurd (d (sym (same_shape s.sides g.sides (accepted g s cell h.0).shape) ∙ (modelled f s r).sides))
marks_of f t (other {s = s} r g d cell (Err e) h) = subst (λ (q : State). Marks q.marks (accepted_cells f s r)) (sym h.1) (marks_of f s r)
marks_of f t (ask {s = s} r h) = subst (λ (q : State). Marks q.marks (accepted_cells f s r)) (sym h) (marks_of f s r)

-- every run is lawful
pub lawful : (f : Field) (s : State) → Bounded f → (r : Run f s) → Lawful f s r
lawful f s b r =
    let m = marks_of f s r in
    let k = modelled f s r in
    record {
      once = m.once;
      marched = λ c i. let e = m.to c (has_in (accepted_cells f s r) c i) in record { cell = k.cells c (k.listed c e); mark = e };
      accepted = λ c w. in_has (accepted_cells f s r) c (m.from c w.mark);
      skin = run_skin f s b r;
    }

pub march_keeps : (f : Field) (s t : State) (cell : ℕ) (answer : Result Counts Refusal) → Bounded f → March f s cell answer t → KeepsSkin f s t
march_keeps f s t cell answer b m = record {
  run = λ r. march r cell answer m;
  law = lawful f t b;
  other_run = λ g d r. other r f d cell answer m;
  other_law = λ g d h r. lawful g t h r;
}

pub begin_keeps : (n : Sides) (marks entries : ℕ) (vs : List Vertex) (ts : List (Triangle ℕ)) (s : State) → s ≡ begun n marks entries vs ts → BeginsSkin n s
begin_keeps n marks entries vs ts s e = record {
  run = λ f p. subst (Run f) (sym (e ∙ ap (λ (k : Sides). begun k marks entries vs ts) (sym p))) (begin marks entries vs ts);
  law = λ f b r. lawful f s b r;
}
