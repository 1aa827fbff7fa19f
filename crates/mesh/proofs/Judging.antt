-- A mesh without faults is a closed oriented surface, and the verdict by the first fault. Assumes nothing.
use Rattle.std.proofs.Common.{◌≡◌, ℕ, ◌<◌, ◌⊎◌, List, length, Some, sym, refl, inl, inr, ⊎_elim, arith}
use Rattle.std.proofs.lemmas.Bool.{cases_order}
use Rattle.grid.specs.declared.geometry.Triangle.{Triangle}
use Rattle.mesh.specs.declared.verdicts.Counts.{Counts}
use Rattle.mesh.specs.declared.verdicts.Verdict.{Verdict}
use Rattle.mesh.specs.declared.verdicts.Verdict.TheVariants as verdict
use Rattle.mesh.specs.Triangles.{triangle_at, Runs, Apart}
use Rattle.mesh.specs.Rings.{At, OneRing, MoreRings}
use Rattle.mesh.specs.Surfaces.{Surface}
use Rattle.mesh.specs.First.{Clear, First}
use Rattle.mesh.specs.Faults.{Misnamed, Doubled, Unpaired, Bare, Fault}
use Rattle.mesh.specs.Verdicts.{report, Counted, Judged, SoundForSurfaces}
use Rattle.mesh.proofs.Counting.{some_or}
use Rattle.mesh.proofs.Named.{named_below, named_apart}
use Rattle.mesh.proofs.Round.{Mesh, ring_or}

-- what can be decided

pub runs_or : (t : Triangle ℕ) (u v : ℕ) → Runs t u v ⊎ (Runs t u v → ⊥)
runs_or t u v = grind arith

at_or : (ts : List (Triangle ℕ)) (v k : ℕ) → At ts v k ⊎ (At ts v k → ⊥)
at_or ts v k = grind arith

-- faults by their number

pub fault_by : {C : Type 0} (n : ℕ) (ts : List (Triangle ℕ)) (m q : ℕ) → Fault n ts m q
    → (m ≡ 1 → q < length ts → Misnamed n ts q → C)
    → (m ≡ 2 → q < length ts → Doubled ts q → C)
    → (m ≡ 3 → q < length ts → Unpaired ts q → C)
    → (m ≡ 4 → q < n → Bare ts q → C)
    → (m ≡ 5 → q < n → MoreRings ts q → C)
    → C
fault_by n ts m q f one two three four five = grind arith

module _ (n : ℕ) (ts : List (Triangle ℕ)) where
  -- a surface has no fault
  pub surface_clear : Surface n ts → (m q : ℕ) → Fault n ts m q → ⊥
  surface_clear s m q f =
      fault_by n ts m q f
      (λ e h x.
      let b = s.below q h in
      let d = s.different q h in
      ⊎_elim (λ z. omega arith) (λ x. ⊎_elim (λ z. omega arith) (λ x. ⊎_elim (λ z. omega arith) (λ x. ⊎_elim d.ab (λ x. ⊎_elim d.bc d.ca x) x) x) x) x)
      (λ e h x. omega (arith, x.before, s.once x.earlier q x.from x.to (omega (arith, x.before)) h x.there x.here))
      (λ e h x. let r = s.paired q x.from x.to h x.runs in x.alone r.at r.within r.runs)
      (λ e h x. let r = s.covered q h in x r.0 r.1)
      (λ e h x. x.apart ((s.rings q h).leads x.from x.to x.from_at x.to_at))

  module _ (named : Clear (Misnamed n ts) (length ts)) where
    different : (k : ℕ) → k < length ts → Apart (triangle_at ts k)
    different k h = named_apart n (triangle_at ts k) (named k h)

    -- the first three rules in other words
    pub clear_mesh : Clear (Doubled ts) (length ts) → Clear (Unpaired ts) (length ts) → Mesh ts
    clear_mesh single pairs = record {
      different = different;
      once = λ j k u v h b r q. ⊎_elim
          (λ e. e)
          (λ o. ⊎_elim
          (λ lt. absurd (single k b (record { earlier = j; before = lt; from = u; to = v; here = q; there = r })))
          (λ lt. absurd (single j h (record { earlier = k; before = lt; from = u; to = v; here = r; there = q })))
          o)
          (cases_order j k);
      paired = λ k u v h r. ⊎_elim
          (λ x. record { at = x.0; within = x.1; runs = x.2 })
          (λ lone. absurd (pairs k h (record { from = u; to = v; runs = r; alone = lone })))
          (some_or (λ j. Runs (triangle_at ts j) v u) (λ j. runs_or (triangle_at ts j) v u) (length ts));
    }

  module _ (none : (m q : ℕ) → Fault n ts m q → ⊥) where
    named_all : Clear (Misnamed n ts) (length ts)
    named_all k h x = none 1 k (inl (refl, h, x))

    mesh : Mesh ts
    mesh = clear_mesh named_all (λ k h x. none 2 k (inr (inl (refl, h, x)))) (λ k h x. none 3 k (inr (inr (inl (refl, h, x)))))

    covered : (v : ℕ) → v < n → (k : ℕ) × At ts v k
    covered v h =
        ⊎_elim
        (λ x. (x.0, x.2))
        (λ bare. absurd (none 4 v (inr (inr (inr (inl (refl, h, λ k a. bare k a.within a)))))))
        (some_or (At ts v) (at_or ts v) (length ts))

    rings : (v : ℕ) → v < n → OneRing ts v
    rings v h =
        let r = covered v h in
        ⊎_elim
        (λ one. one)
        (λ more. absurd (none 5 v (inr (inr (inr (inr (refl, h, more)))))))
        (ring_or ts mesh v r.0 r.1)

    -- a mesh without faults is a surface
    pub clear_surface : Surface n ts
    clear_surface = record {
      below = λ k h. named_below n (triangle_at ts k) (named_all k h);
      different = mesh.different;
      once = mesh.once;
      paired = mesh.paired;
      covered = covered;
      rings = rings;
    }

  -- what comes before the fault of a number at a place
  abbrev Ahead : ℕ → ℕ → ℕ → ℕ → Type 0
  Ahead number place r q = (r < number) ⊎ ((r ≡ number) × (q < place))

  judge : (number place : ℕ) → Fault n ts number place
      → ((q : ℕ) → Ahead number place 1 q → q < length ts → Misnamed n ts q → ⊥)
      → ((q : ℕ) → Ahead number place 2 q → q < length ts → Doubled ts q → ⊥)
      → ((q : ℕ) → Ahead number place 3 q → q < length ts → Unpaired ts q → ⊥)
      → ((q : ℕ) → Ahead number place 4 q → q < n → Bare ts q → ⊥)
      → ((q : ℕ) → Ahead number place 5 q → q < n → MoreRings ts q → ⊥)
      → Judged n ts number (inl place)
  judge number place f one two three four five = (
    f,
    λ q lt x. fault_by n ts number q x (λ e. one q (inr (sym e, lt))) (λ e. two q (inr (sym e, lt))) (λ e. three q (inr (sym e, lt))) (λ e. four q (inr (sym e, lt))) (λ e. five q (inr (sym e, lt))),
    λ m q lt x. fault_by n ts m q x (λ e. one q (inl (omega arith))) (λ e. two q (inl (omega arith))) (λ e. three q (inl (omega arith))) (λ e. four q (inl (omega arith))) (λ e. five q (inl (omega arith))),
  )

  here : (number place q : ℕ) → Ahead number place number q → q < place
  here number place q o = grind arith

  later : (number place r q : ℕ) → number < r → Ahead number place r q → ⊥
  later number place r q lt o = grind arith

  module _ (named : Clear (Misnamed n ts) (length ts)) where
    pub judged_doubled : (k : ℕ) → First (Doubled ts) (length ts) (Some k) → Judged n ts 2 (inl k)
    judged_doubled k f =
        judge 2 k (inr (inl (refl, f.0, f.1)))
        (λ q o b. named q b)
        (λ q o b. f.2 q (here 2 k q o))
        (λ q o b x. later 2 k 3 q (omega arith) o)
        (λ q o b x. later 2 k 4 q (omega arith) o)
        (λ q o b x. later 2 k 5 q (omega arith) o)

    module _ (single : Clear (Doubled ts) (length ts)) where
      pub judged_unpaired : (k : ℕ) → First (Unpaired ts) (length ts) (Some k) → Judged n ts 3 (inl k)
      judged_unpaired k f =
          judge 3 k (inr (inr (inl (refl, f.0, f.1))))
          (λ q o b. named q b)
          (λ q o b. single q b)
          (λ q o b. f.2 q (here 3 k q o))
          (λ q o b x. later 3 k 4 q (omega arith) o)
          (λ q o b x. later 3 k 5 q (omega arith) o)

      module _ (pairs : Clear (Unpaired ts) (length ts)) where
        pub judged_bare : (k : ℕ) → First (Bare ts) n (Some k) → Judged n ts 4 (inl k)
        judged_bare k f =
            judge 4 k (inr (inr (inr (inl (refl, f.0, f.1)))))
            (λ q o b. named q b)
            (λ q o b. single q b)
            (λ q o b. pairs q b)
            (λ q o b. f.2 q (here 4 k q o))
            (λ q o b x. later 4 k 5 q (omega arith) o)

        module _ (cover : Clear (Bare ts) n) where
          pub judged_torn : (k : ℕ) → First (MoreRings ts) n (Some k) → Judged n ts 5 (inl k)
          judged_torn k f =
              judge 5 k (inr (inr (inr (inr (refl, f.0, f.1)))))
              (λ q o b. named q b)
              (λ q o b. single q b)
              (λ q o b. pairs q b)
              (λ q o b. cover q b)
              (λ q o b. f.2 q (here 5 k q o))

          pub no_fault : Clear (MoreRings ts) n → (m q : ℕ) → Fault n ts m q → ⊥
          no_fault whole m q x = fault_by n ts m q x (λ i. named q) (λ i. single q) (λ i. pairs q) (λ i. cover q) (λ i. whole q)

  -- a verdict is sound exactly for a surface
  pub sound_for_surfaces : (w : Verdict) → Judged n ts (report w).0 (report w).1 → SoundForSurfaces n ts w
  sound_for_surfaces (verdict.Misnamed k) j = (λ e. absurd (omega arith), λ s. absurd (surface_clear s 1 k j.0))
  sound_for_surfaces (verdict.Doubled k) j = (λ e. absurd (omega arith), λ s. absurd (surface_clear s 2 k j.0))
  sound_for_surfaces (verdict.Unpaired k) j = (λ e. absurd (omega arith), λ s. absurd (surface_clear s 3 k j.0))
  sound_for_surfaces (verdict.Bare k) j = (λ e. absurd (omega arith), λ s. absurd (surface_clear s 4 k j.0))
  sound_for_surfaces (verdict.Torn k) j = (λ e. absurd (omega arith), λ s. absurd (surface_clear s 5 k j.0))
  sound_for_surfaces (verdict.Sound c) j = (λ e. clear_surface j.1, λ s. refl)

  -- the only verdict on a surface is sound, with its counts
  pub surface_judged : Surface n ts → (w : Verdict) → Judged n ts (report w).0 (report w).1 → (c : Counts) × (w ≡ verdict.Sound c) × Counted n ts c
  surface_judged s (verdict.Misnamed k) j = absurd (surface_clear s 1 k j.0)
  surface_judged s (verdict.Doubled k) j = absurd (surface_clear s 2 k j.0)
  surface_judged s (verdict.Unpaired k) j = absurd (surface_clear s 3 k j.0)
  surface_judged s (verdict.Bare k) j = absurd (surface_clear s 4 k j.0)
  surface_judged s (verdict.Torn k) j = absurd (surface_clear s 5 k j.0)
  surface_judged s (verdict.Sound c) j = (c, refl, j.2)
