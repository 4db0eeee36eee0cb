-- The headline of every run: its sentences hold of each part of the turns, since a part of a run is
-- a run.
use Rattle.std.proofs.Common.{◌≡◌, ℕ, ◌≤◌, inl, inr, List, [], ◌∷◌, ◌++◌, append_assoc, sym, ap, subst, ◌∙◌, arith}
use Rattle.std.proofs.lemmas.Bool.{cases_lt}
use Rattle.std.specs.Prelude.{Bool, All}
use Rattle.nm_edge.specs.Layouts.{Layout, IsLayout}
use Rattle.nm_model.specs.declared.event.Event.{Event}
use Rattle.nm_model.specs.declared.trace.Turn.{Turn}
use Rattle.nm_model.specs.Ordered.{HasKey, opening_of, trace_in}
use Rattle.nm_model.specs.Headline.{AreFreedInTurn, OnePlace, WhatIsReachedIsYounger, IsStill, EpochStaysNear, WhatWasToldStays, Headline}
use Rattle.nm_theorem.specs.EachRun.{OfEachRun}
use Rattle.nm_theorem.proofs.Runs.{Parts, parts_of}
use Rattle.nm_theorem.proofs.ReadsOfRuns.{reads_tell}
use Rattle.nm_theorem.proofs.GraceOfRuns.{grace_of_run}
use Rattle.nm_theorem.proofs.EpochsOfRuns.{epoch_stays_near}
use Rattle.nm_theorem.proofs.FreedOfRuns.{freed_in_turn}
use Rattle.nm_theorem.proofs.YoungerOfRuns.{reached_are_younger}
use Rattle.nm_theorem.proofs.FixedOfRuns.{fixed_stay}
use Rattle.nm_theorem.proofs.CutsOfRuns.{turns_cut_just_their_nodes}
use Rattle.nm_theorem.proofs.PlacesOfRuns.{one_place}
use Rattle.nm_theorem.proofs.StandingOfRuns.{touched_was_told, told_stays, holders_store}

module _ (L : Layout) (fits : IsLayout L) (b : Bool) (events : List (ℕ × Event)) where
  -- what holds of the turns of each run holds of the first turns of this one
  each_part : (P : List Turn → Type 0) → ((ts : List (ℕ × Event)) → P (trace_in (opening_of L b) ts))
      → (so_far rest : List Turn) → trace_in (opening_of L b) events ≡ so_far ++ rest → P so_far
  each_part P run so_far rest all =
      let p : Parts (opening_of L b) events so_far rest = parts_of (opening_of L b) events so_far rest all in
      subst P (sym p.first_is) (run p.early)

  fixed : (so_far rest : List Turn) → trace_in (opening_of L b) events ≡ so_far ++ rest → (x : ℕ) → x ≤ 5
      → IsStill L [] so_far x
  fixed = each_part (λ so_far. (x : ℕ) → x ≤ 5 → IsStill L [] so_far x) (fixed_stay L fits b)

  -- what was told is a slot, or it is 0, which a null edge tells
  stay : All (λ t. HasKey t.1) events → (so_far rest : List Turn) → trace_in (opening_of L b) events ≡ so_far ++ rest
      → WhatWasToldStays L so_far
  stay keys so_far rest all w x o = elim (cases_lt x 1) [
    | inr least ↦ told_stays L fits b events keys so_far rest all w x least o
    | inl null ↦
        let low : x ≤ 5 = omega (arith, null) in
        let now = fixed so_far rest all x low in
        let then = fixed o.before ((o.told ∷ o.since) ++ rest)
        (all ∙ (ap (λ (us : List Turn). us ++ rest) o.are ∙ append_assoc o.before (o.told ∷ o.since) rest)) x
        low in
        record { pooled = now.pooled; in_hands = now.in_hands; birth = now.birth ∙ sym then.birth }
  ]

  pub headline : All (λ t. HasKey t.1) events → Headline L (trace_in (opening_of L b) events)
  headline keys = record {
    reads = reads_tell L fits b events;
    cuts = turns_cut_just_their_nodes L fits b events keys;
    queues = each_part AreFreedInTurn (freed_in_turn L fits b);
    near = each_part (EpochStaysNear L) (epoch_stays_near L fits b);
    grace = grace_of_run L fits b events;
    told = touched_was_told L fits b events keys;
    stays = stay keys;
    fixed = fixed;
    stores = holders_store L fits b events keys;
    younger = each_part (WhatIsReachedIsYounger L) (reached_are_younger L fits b);
    places = each_part (λ so_far. (x : ℕ) → 6 ≤ x → x ≤ L.nodes → OnePlace L so_far x) (one_place L fits b);
  }

pub each_run_has_it : OfEachRun Headline
each_run_has_it L fits b events keys = headline L fits b events keys
