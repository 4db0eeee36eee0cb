-- What one run keeps, from any state that can be reached, and its grace.
use Rattle.std.proofs.Common.{◌≡◌, ℕ, zero, suc, ◌<◌, List, [], ◌∷◌, ◌++◌, length, take, refl, sym, ap, subst, ◌∙◌, arith, inl, inr}
use Rattle.std.specs.Prelude.{Some, Result, Ok, Contains}
use Rattle.nm_edge.specs.declared.node.NodeId.{NodeId}
use Rattle.nm_model.specs.declared.event.Event.{Event}
use Rattle.nm_model.specs.declared.event.Event.TheVariants.{Splice, Swap}
use Rattle.nm_model.specs.declared.reply.Reply.{Reply}
use Rattle.nm_model.specs.declared.reply.Reply.TheVariants.{Cut, Freed}
use Rattle.nm_model.specs.declared.reply.Refused.{Refused}
use Rattle.nm_model.specs.declared.trace.Turn.{Turn}
use Rattle.nm_model.specs.Places.{EachSlotInOnePlace}
use Rattle.nm_model.specs.Runs.{State, of, after, trace, next, outcome}
use Rattle.nm_laws.proofs.Reaches.{IsReachable}
use Rattle.nm_edge.specs.Layouts.{Layout}
use Rattle.nm_model.specs.Laws.{OfEachState, OfEachCut, OfEachSwap, CutsJust, NothingElseCuts, OnlySplicesAnswerCuts, NoNodeTwice, GraceHolds, RetiredGrowsByTheCuts, slots_of, nodes_cut_of, HasLeft}
use Rattle.nm_model.specs.Lawful.{LabelsDoNotFall, NoLabelIsAboveTheEpoch, BriefsAreRight, QueuedNodesAreFrozen, TaggedEdgesHaveFlaggedTwins, FlaggedEdgesLeadToLeaves, OnlyThePinnedKnow, ReachIsShared, ReachIsGuarded, EpochsAgree, CountsAddUp, EachReadStands, KnownLeavesAreLeaves, EachBirthStands}
use Rattle.nm_model.specs.Traces.{IsLawfulState, IsLawfulRun, EachHasOneHolder, LedgersAreSplit, LedgersGrowByTheCuts, LedgersFreeWhatGivesFreed}
use Rattle.nm_laws.proofs.Reachable.{of_reachable, reachable_after, retired_grows}
use Rattle.nm_laws.proofs.OnePlace.{each_slot_has_one_place}
use Rattle.nm_laws.proofs.Counts.{each_state_adds_up}
use Rattle.nm_laws.proofs.Cuts.{cuts_just, swaps_cut_just}
use Rattle.nm_laws.proofs.Stays.{SpliceOrSwap, nothing_else_cuts, only_splices_answer_cuts}
use Rattle.nm_laws.proofs.EachState.{each_read_stands, each_known_leaf, each_queue_frozen, each_tag_twinned, each_flag_on_leaf, each_reach_shared, each_reach_guarded, each_epoch_agrees, each_knower_pinned}
use Rattle.nm_laws.proofs.Pins.{reachable_pins_are_near}
use Rattle.nm_laws.proofs.Labels.{labels_do_not_fall, no_label_is_above, briefs_are_right}
use Rattle.nm_laws.proofs.KnownBirths.{each_birth_stands}
use Rattle.nm_laws.proofs.Retired.{layout_after, freed_then_queue, each_ledger_has_one_holder}
use Rattle.nm_laws.proofs.Once.{IsSound, sound, no_node_is_cut_twice}
use Rattle.nm_laws.proofs.FreedNodes.{freed_grows}
use Rattle.nm_laws.proofs.Grace.{grace_holds}

-- ---- a part of a trace is the trace of a part

-- the turn that an event is told as
abbrev told : State → ℕ × Event → Turn
told s t = record { worker = t.0; event = t.1; outcome = outcome s t }

-- the events of the first turns and those of the rest, where a trace is split
record Parts (s : State) (ts : List (ℕ × Event)) (first rest : List Turn) : Type 0 where
  early : List (ℕ × Event)
  late : List (ℕ × Event)
  all : ts ≡ early ++ late
  first_is : first ≡ trace s early
  rest_is : rest ≡ trace (after s early) late
  size : length early ≡ length first

-- the first event and the others, where a trace has a first turn
record Head (s : State) (ts : List (ℕ × Event)) (turn : Turn) (rest : List Turn) : Type 0 where
  event : ℕ × Event
  others : List (ℕ × Event)
  all : ts ≡ event ∷ others
  turn_is : turn ≡ told s event
  rest_is : rest ≡ trace (next s event) others

pub same_head : (x y : Turn) (xs ys : List Turn) → x ∷ xs ≡ y ∷ ys → (x ≡ y) × (xs ≡ ys)
same_head x y xs ys e = (cc, cc)

pub no_turn : (x : Turn) (xs : List Turn) → [] ≡ x ∷ xs → ⊥
no_turn x xs e = cc

head_of : (s : State) (ts : List (ℕ × Event)) (turn : Turn) (rest : List Turn) → trace s ts ≡ turn ∷ rest
    → Head s ts turn rest
unfolding trace
head_of s [] turn rest e = absurd (no_turn turn rest e)
head_of s (t ∷ ts) turn rest e =
    let same = same_head (told s t) turn (trace (next s t) ts) rest e in
    record { event = t; others = ts; all = refl; turn_is = sym same.0; rest_is = sym same.1 }

parts_of : (s : State) (ts : List (ℕ × Event)) (first rest : List Turn) → trace s ts ≡ first ++ rest
    → Parts s ts first rest
unfolding after trace
parts_of s ts [] rest e = record { early = []; late = ts; all = refl; first_is = refl; rest_is = sym e; size = refl }
parts_of s ts (x ∷ xs) rest e =
    let h = head_of s ts x (xs ++ rest) e in
    let p = parts_of (next s h.event) h.others xs rest (sym h.rest_is) in
    record {
      early = h.event ∷ p.early;
      late = p.late;
      all = h.all ∙ ap (λ (us : List (ℕ × Event)). h.event ∷ us) p.all;
      first_is = ap (λ (y : Turn). y ∷ xs) h.turn_is ∙ ap (λ (ys : List Turn). told s h.event ∷ ys) p.first_is;
      rest_is = p.rest_is;
      size = ap (λ (n : ℕ). suc n) p.size;
    }

-- the first turns are those of the first events
take-trace : (i : ℕ) (s : State) (ts : List (ℕ × Event)) → take i (trace s ts) ≡ trace s (take i ts)
unfolding trace
take-trace zero s ts = refl
take-trace (suc i) s [] = refl
take-trace (suc i) s (t ∷ ts) = ap (λ (rest : List Turn). told s t ∷ rest) (take-trace i (next s t) ts)

pub take_first : (xs ys : List (ℕ × Event)) → take (length xs) (xs ++ ys) ≡ xs
take_first [] ys = refl
take_first (x ∷ xs) ys = ap (λ (zs : List (ℕ × Event)). x ∷ zs) (take_first xs ys)

-- the state after some events, by their number alone
after_first : (s : State) (ts early late : List (ℕ × Event)) (n : ℕ) → ts ≡ early ++ late → length early ≡ n
    → after s (take n ts) ≡ after s early
after_first s ts early late n all size = ap (λ (us : List (ℕ × Event)). after s us)
    (ap (take n) all ∙ (ap (λ (m : ℕ). take m (early ++ late)) (sym size) ∙ take_first early late))

-- ---- one turn

-- an outcome answers a cut or none
data Told : Result Reply Refused → Type 0 where
  CutNodes : {o : Result Reply Refused} (ns : List NodeId) → o ≡ Ok (Cut ns) → Told o
  NoCut : {o : Result Reply Refused} → nodes_cut_of o ≡ [] → ((ns : List NodeId) → o ≡ Ok (Cut ns) → ⊥) → Told o

told_of : (o : Result Reply Refused) → Told o
told_of (Ok (Cut ns)) = CutNodes ns refl
told_of o = NoCut refl (λ ns e. cc)

nothing_in : (x : ℕ) (xs : List ℕ) → xs ≡ [] → Contains xs x → ⊥
nothing_in x xs none there = let size = ap (λ (ys : List ℕ). length ys) none in let below = there.1 in
    absurd (omega arith)

abbrev CutsItsNodes : State → ℕ × Event → Type 0
CutsItsNodes s t = CutsJust s.memory (nodes_cut_of (outcome s t)) (next s t).memory

as_splice : (w : ℕ) (e f : Event) → e ≡ f → ◌≡◌ {A = ℕ × Event} (w, e) (w, f)
as_splice w e f is = ap (λ (y : Event). (w, y)) is

pub turn_cuts : (s : State) → IsReachable s → (t : ℕ × Event) → CutsItsNodes s t
turn_cuts s r t = go (told_of (outcome s t))
  where
    go : Told (outcome s t) → CutsItsNodes s t
    go (CutNodes ns is) = on (of_reachable OnlySplicesAnswerCuts only_splices_answer_cuts s r t ns is)
      where
        on : SpliceOrSwap t.1 → CutsItsNodes s t
        on (inl by) =
            let e = as_splice t.0 t.1 (Splice by.0 by.1 by.2 by.3 by.4) by.5 in
            λ x. rw (is, e) (of_reachable
            (OfEachCut (λ before successor ns after. CutsJust before.memory ns
            after.memory)) cuts_just s r t.0 by.0 by.1 by.2 by.3 by.4 ns (rw (← e) is) x)
        on (inr by) =
            let e = as_splice t.0 t.1 (Swap by.0 by.1 by.2 by.3) by.4 in
            λ x. rw (is, e) (of_reachable
            (OfEachSwap (λ before leaf ns after. CutsJust before.memory ns
            after.memory)) swaps_cut_just s r t.0 by.0 by.1 by.2 by.3 ns (rw (← e) is) x)
    go (NoCut none uncut) =
        λ x. (
          (λ c. absurd (c.gone (of_reachable NothingElseCuts nothing_else_cuts s r t uncut x c.was))),
          (λ c. absurd (nothing_in x _ (ap slots_of none) c)),
        )

-- ---- the states of a run

-- where a node is cut by one turn and freed by a later one, each worker that was pinned at the cut,
-- by the state there, left between the two
abbrev pub GraceInRun : (ℕ → State) → List Turn → Type 0
GraceInRun states turns = (before between rest : List Turn) (cut free : Turn) (ns : List NodeId) (n : NodeId) (w e : ℕ)
    → turns ≡ before ++ cut ∷ (between ++ free ∷ rest)
    → cut.outcome ≡ Ok (Cut ns) → Contains ns n
    → free.outcome ≡ Ok (Freed n)
    → (of (states (length before)) w).brief.pin ≡ Some e
    → HasLeft w between

split_of_runs : OfEachState LedgersAreSplit
split_of_runs L enough turns w o l is = freed_then_queue L turns w o l is

holders_of_runs : OfEachState EachHasOneHolder
holders_of_runs L enough turns o inside = each_ledger_has_one_holder L turns o
    (subst (λ (M : Layout). o < M.workers) (layout_after L turns) inside)

pub lawful_state : (s : State) → IsReachable s → IsLawfulState s
lawful_state s r = record {
  places = of_reachable EachSlotInOnePlace each_slot_has_one_place s r;
  counts = of_reachable CountsAddUp each_state_adds_up s r;
  near = reachable_pins_are_near s r;
  epochs = of_reachable EpochsAgree each_epoch_agrees s r;
  holders = of_reachable EachHasOneHolder holders_of_runs s r;
  split = of_reachable LedgersAreSplit split_of_runs s r;
  once = of_reachable NoNodeTwice no_node_is_cut_twice s r;
  rising = of_reachable LabelsDoNotFall labels_do_not_fall s r;
  below = of_reachable NoLabelIsAboveTheEpoch no_label_is_above s r;
  briefs = of_reachable BriefsAreRight briefs_are_right s r;
  queued = of_reachable QueuedNodesAreFrozen each_queue_frozen s r;
  twins = of_reachable TaggedEdgesHaveFlaggedTwins each_tag_twinned s r;
  leaves = of_reachable FlaggedEdgesLeadToLeaves each_flag_on_leaf s r;
  pinned = of_reachable OnlyThePinnedKnow each_knower_pinned s r;
  shared = of_reachable ReachIsShared each_reach_shared s r;
  guarded = of_reachable ReachIsGuarded each_reach_guarded s r;
  marks = of_reachable EachReadStands each_read_stands s r;
  known = of_reachable KnownLeavesAreLeaves each_known_leaf s r;
  births = of_reachable EachBirthStands each_birth_stands s r;
}

-- no node was retired twice, and what goes with it
sound_state : (s : State) → IsReachable s → IsSound s
sound_state s r = subst (λ (t : State). IsSound t) r.leads
    (sound s.layout (let enough = r.fits.least in omega arith) r.events)

module _ (s : State) (reachable : IsReachable s) (ts : List (ℕ × Event)) where
  abbrev states : ℕ → State
  states i = after s (take i ts)

  state_before : (first rest : List Turn) (p : Parts s ts first rest) → states (length first) ≡ after s p.early
  state_before first rest p = after_first s ts p.early p.late (length first) p.all p.size

  growing : LedgersGrowByTheCuts states (trace s ts)
  unfolding after
  growing i w v origin l m is is' = rw (take-trace i s ts)
      (of_reachable RetiredGrowsByTheCuts retired_grows s reachable (take i ts) w v origin l m is is')

  freed : LedgersFreeWhatGivesFreed states (trace s ts)
  unfolding after
  freed i w v origin l m is is' = rw (take-trace i s ts)
      (freed_grows s (sound_state s reachable) (take i ts) w v origin l m is is')

  pub grace : GraceInRun states (trace s ts)
  grace first between rest cut free ns n w e all cuts there frees pin = at_cut
      (parts_of s ts first (cut ∷ (between ++ free ∷ rest)) all)
    where
      at_free : (p : Parts s ts first (cut ∷ (between ++ free ∷ rest)))
          (h : Head (after s p.early) p.late cut (between ++ free ∷ rest))
          (q : Parts (next (after s p.early) h.event) h.others between (free ∷ rest))
          (f : Head (after (next (after s p.early) h.event) q.early) q.late free rest) → HasLeft w between
      at_free p h q f = rw q.first_is (of_reachable GraceHolds grace_holds (after s p.early)
          (reachable_after s reachable p.early) h.event q.early f.event ns n w e
          (sym (ap (λ (t : Turn). t.outcome) h.turn_is) ∙ cuts) there
          (sym (ap (λ (t : Turn). t.outcome) f.turn_is) ∙ frees)
          (subst (λ (t : State). (of t w).brief.pin ≡ Some e) (state_before first (cut ∷ (between ++ free ∷ rest)) p)
          pin))

      between_them : (p : Parts s ts first (cut ∷ (between ++ free ∷ rest)))
          (h : Head (after s p.early) p.late cut (between ++ free ∷ rest))
          (q : Parts (next (after s p.early) h.event) h.others between (free ∷ rest)) → HasLeft w between
      between_them p h q = at_free p h q (head_of _ q.late free rest (sym q.rest_is))

      at_cut : Parts s ts first (cut ∷ (between ++ free ∷ rest)) → HasLeft w between
      at_cut p = let h = head_of (after s p.early) p.late cut (between ++ free ∷ rest) (sym p.rest_is) in
          between_them p h (parts_of _ h.others between (free ∷ rest) (sym h.rest_is))

  pub lawful_run : IsLawfulRun states (trace s ts)
  lawful_run = record {
    each = λ i. lawful_state (states i) (reachable_after s reachable (take i ts));
    growing = growing;
    freed = freed;
  }
