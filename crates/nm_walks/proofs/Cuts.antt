-- Cuts: a chain that the facts freeze may be cut off, and what a splice leaves.
use Rattle.std.proofs.Common.{◌≡◌, ◌≢◌, ◌≤◌, ℕ, zero, suc, true, not, ◌&&◌, ◌||◌, List, [], ◌∷◌, refl, sym, ap, subst, ◌∙◌, arith, true≢false}
use Rattle.std.specs.Prelude.{Option, Some, None, IsSome, is_none, is_some, unwrap_or, Result, Ok, Err, IfOk, IfErr, All}
use native.Mathlib.Decide.{ℕ_discrete}
use Rattle.std.proofs.lemmas.Bool.{and_from, and_parts}
use Rattle.std.proofs.lemmas.List.Elements.{All-cons, All-nil}
use Rattle.std.proofs.lemmas.Option.{none-some, same_Some}
use Rattle.nm_edge.specs.Edges.{Edge, other}
use Rattle.nm_edge.specs.Layouts.{Layout, IsLayout}
use Rattle.nm_edge.specs.declared.edge.Side.{Side}
use Rattle.nm_edge.specs.declared.edge.Side.TheVariants.{Left, Right}
use Rattle.nm_edge.specs.declared.node.NodeId.{NodeId}
use Rattle.nm_model.specs.declared.event.Event.TheVariants.{Splice}
use Rattle.nm_model.specs.declared.knowledge.Seen.{Seen}
use Rattle.nm_model.specs.declared.reply.Refused.TheVariants.{NoSlot, NotPinned, NotHeld, NotFrozen}
use Rattle.nm_model.specs.declared.reply.Reply.TheVariants.{Cut, Lost}
use Rattle.nm_model.specs.Knowledge.{Knowledge, knows, seen_of, unread, read_on, read, is_flagged, is_tagged, slot_read, onward, before_way, way, cut_by}
use Rattle.nm_model.specs.Ledgers.{held}
use Rattle.nm_model.specs.Maps.{get}
use Rattle.nm_model.specs.Searches.{Search, idle, searched}
use Rattle.nm_model.specs.Step.{outside, is_frozen, refusal}
use Rattle.nm_model.specs.Walks.{search_after}
use Rattle.nm_laws.proofs.Learned.{learn_cut, learn_splice_lost}
use Rattle.nm_model.proofs.Ways.{way_here, way_next, way_end}
use Rattle.nm_order.specs.Facts.{HoldsIn}
use Rattle.nm_order.specs.Facts.Fact.{KnowsSlot, IsFlagged}
use Rattle.nm_order.specs.Told.{FrozenTo}
use Rattle.nm_order.specs.Told.FrozenTo.{ends_there, goes_down}
use Rattle.nm_order.specs.Told.TellsEdge.{BySplice}
use Rattle.nm_order.proofs.FactLaws.{flagged_slots_stand_high}
use Rattle.nm_order.proofs.FrozenChains.{frozen_chains_may_be_cut}
use Rattle.nm_order.proofs.ToldCuts.{cuts_enter}
use Rattle.nm_order.proofs.ToldNodes.{flag_known, tag_known, onward_is, cuts_are_as_known}
use Rattle.nm_steps.specs.Rules.{knowledge}
use Rattle.nm_steps.specs.Steps.{PassView, MayStep, Stepped, nodes_cut, splice_reply}
use Rattle.nm_steps.proofs.AfterSteps.{TellsRun}
use Rattle.nm_steps.proofs.Extending.{neither}
use Rattle.nm_walks.specs.Telling.{Tells, IsInRun, IsPinnedSomewhere}
use Rattle.nm_walks.specs.Marking.{IsToBeCut, OnlyCuts, SpliceWon, SpliceLost}
use Rattle.nm_walks.proofs.Looks.{enough, known_inside, grown}
use Rattle.nm_order.proofs.LinkedBirths.{is_looked}
use Rattle.nm_epoch.proofs.Entries.{search_is}
use Rattle.nm_walks.proofs.Marks.{slot_inside, only_reads, edge_found}
use Rattle.nm_model.proofs.Checks.{not_outside, passes_then}
use Rattle.nm_steps.proofs.Presence.{known_after_step}

-- ---- the births of a frozen chain

module _ (k : Knowledge) (S : Search) where
  -- a slot of which an edge was read is known
  read_known : (x : ℕ) (d : Side) (e : Edge) → read k x d ≡ Some e → knows k x ≡ true
  read_known x d e is = go (get k.known x) d is
    where
      go : (o : Option Seen) (d : Side) → read_on (unwrap_or o unread) d ≡ Some e → is_some o ≡ true
      go None Left is = absurd (none-some e is)
      go None Right is = absurd (none-some e is)
      go (Some n) d is = refl

  -- so the first slot of a chain is known, and the last
  pub first_known : {p : ℕ} {keep : Side} {x : ℕ} {ns : List NodeId}
      → FrozenTo (λ fact. HoldsIn k S fact) p keep x ns → knows k x ≡ true
  first_known {p} {keep} (ends_there tag flag b c) = read_known p keep tag.0 tag.1
  first_known (goes_down {slot} side tag flag b c rest) = read_known slot side tag.0 tag.1

  pub last_known : {p : ℕ} {keep : Side} {x : ℕ} {ns : List NodeId} → FrozenTo (λ fact. HoldsIn k S fact) p keep x ns
      → knows k p ≡ true
  last_known {p} {keep} (ends_there tag flag b c) = read_known p keep tag.0 tag.1
  last_known (goes_down side tag flag b c rest) = last_known rest

  -- each has a flagged edge
  pub first_flagged : {p : ℕ} {keep : Side} {x : ℕ} {ns : List NodeId}
      → FrozenTo (λ fact. HoldsIn k S fact) p keep x ns → (to : ℕ) × (d : Side) × HoldsIn k S (IsFlagged x d to)
  first_flagged {p} {keep} (ends_there {leaf} tag flag b c) = (leaf, other keep, flag)
  first_flagged (goes_down {slot} {to} {leaf} side tag flag b c rest) = (leaf, other side, flag)

  pub last_flagged : {p : ℕ} {keep : Side} {x : ℕ} {ns : List NodeId}
      → FrozenTo (λ fact. HoldsIn k S fact) p keep x ns → (to : ℕ) × (d : Side) × HoldsIn k S (IsFlagged p d to)
  last_flagged {p} {keep} (ends_there {leaf} tag flag b c) = (leaf, other keep, flag)
  last_flagged (goes_down side tag flag b c rest) = last_flagged rest

  -- a node and the flagged leaf beside it, before others
  pair_born : (x y : ℕ) (d : Side) (ys : List ℕ) → HoldsIn k S (IsFlagged x d y) → IsSome (seen_of k x).birth
      → IsSome (seen_of k y).birth → All (λ z. IsSome (seen_of k z).birth) ys
      → All (λ z. IsSome (seen_of k z).birth) (x ∷ slot_read (read k x d) ∷ ys)
  pair_born x y d ys flag node leaf rest =
      All-cons (λ z. IsSome (seen_of k z).birth) x (slot_read (read k x d) ∷ ys) node
      (All-cons (λ z. IsSome (seen_of k z).birth) (slot_read (read k x d)) ys
      (subst (λ z. IsSome (seen_of k z).birth) (sym (flag_known k S x d y flag).1) leaf) rest)

  -- the last node of a chain and the leaf beside it
  last_born : {p : ℕ} {keep : Side} {x : ℕ} {ns : List NodeId} → FrozenTo (λ fact. HoldsIn k S fact) p keep x ns
      → All (λ z. IsSome (seen_of k z).birth) (p ∷ slot_read (read k p (other keep)) ∷ [])
  last_born {p} {keep} (ends_there {leaf} tag flag b c) = pair_born p leaf (other keep) [] flag (ap is_some b)
      (ap is_some c) (All-nil (λ z. IsSome (seen_of k z).birth))
  last_born (goes_down side tag flag b c rest) = last_born rest

  -- and each of a chain, from a slot on
  chain_born : {p : ℕ} {keep : Side} {x : ℕ} {ns : List NodeId} → FrozenTo (λ fact. HoldsIn k S fact) p keep x ns
      → (fuel : ℕ) (sides : List Side) → way fuel k x p ≡ Some sides
      → All (λ z. IsSome (seen_of k z).birth) (cut_by k x sides keep)
  chain_born f zero sides is = absurd (none-some sides is)
  chain_born {p} {keep} (ends_there {leaf} {birth} {leaf_birth} tag flag b c) (suc fuel) sides is =
      subst (λ (r : List Side). All (λ z. IsSome (seen_of k z).birth) (cut_by k p r keep))
      (same_Some [] sides (sym (way_here (suc fuel) fuel k p p (omega arith) refl) ∙ is))
      (pair_born p leaf (other keep) [] flag (ap is_some b) (ap is_some c) (All-nil (λ z. IsSome (seen_of k z).birth)))
  chain_born {p} {keep} (goes_down {slot} {to} {leaf} {birth} {leaf_birth} {nodes} side tag flag b c rest) (suc fuel)
      sides is = elim (ℕ_discrete slot p) [
        | yes back ↦ subst (λ (r : List Side). All (λ z. IsSome (seen_of k z).birth) (cut_by k slot r keep))
            (same_Some [] sides (sym (way_here (suc fuel) fuel k slot p (omega arith) back) ∙ is))
            (subst (λ (y : ℕ). All (λ z. IsSome (seen_of k z).birth) (y ∷ slot_read (read k y (other keep)) ∷ []))
            (sym back) (last_born rest))
        | no ne ↦ on (λ r found. chain_born rest fuel r found) ne (onward k slot) refl
      ]
    where
      Recurs : Type 0
      Recurs = (r : List Side) → way fuel k to p ≡ Some r → All (λ z. IsSome (seen_of k z).birth) (cut_by k to r keep)

      met : Recurs → (o : Option (List Side)) → way fuel k to p ≡ o → before_way (Some side) o ≡ Some sides
          → All (λ z. IsSome (seen_of k z).birth) (cut_by k slot sides keep)
      met recurs None found e = absurd (none-some sides e)
      met recurs (Some r) found e = subst (λ (d : List Side). All (λ z. IsSome (seen_of k z).birth)
          (cut_by k slot d keep)) (same_Some (side ∷ r) sides e)
          (pair_born slot leaf (other side) (cut_by k (slot_read (read k slot side)) r keep) flag (ap is_some b)
          (ap is_some c)
          (subst (λ (y : ℕ). All (λ z. IsSome (seen_of k z).birth) (cut_by k y r keep))
          (sym (tag_known k S slot side to tag)) (recurs r found)))

      on : Recurs → slot ≢ p → (o : Option Side) → onward k slot ≡ o
          → All (λ z. IsSome (seen_of k z).birth) (cut_by k slot sides keep)
      on recurs ne None goes = absurd (none-some sides
          (sym (way_end (suc fuel) fuel k slot p (omega arith) ne goes) ∙ is))
      on recurs ne (Some g) goes =
          let d : g ≡ side = onward_is k S slot side g leaf flag goes in
          met recurs (way fuel k to p) refl (ap (λ (y : ℕ). before_way (Some side) (way fuel k y p))
          (sym (tag_known k S slot side to tag))
          ∙ (sym (way_next (suc fuel) fuel k slot p side (omega arith) ne (goes ∙ ap Some d)) ∙ is))

  -- so the births are known of what a splice cuts
  pub births_known : (L : Layout) (x p : ℕ) (keep : Side) (ns : List NodeId)
      → FrozenTo (λ fact. HoldsIn k S fact) p keep x ns → is_frozen L k x p keep ≡ true
      → All (λ z. IsSome (seen_of k z).birth) (cut_by k x (unwrap_or (way L.nodes k x p) []) keep)
  births_known L x p keep ns f frozen = go (way L.nodes k x p) refl
      (and_parts (is_some (way L.nodes k x p)) (is_tagged (read k p keep) && is_flagged (read k p (other keep)))
      frozen).0
    where
      go : (o : Option (List Side)) → way L.nodes k x p ≡ o → is_some o ≡ true
          → All (λ z. IsSome (seen_of k z).birth) (cut_by k x (unwrap_or o []) keep)
      go None found there = absurd (true≢false (sym there))
      go (Some sides) found there = chain_born f L.nodes sides found

-- ---- a splice is allowed

pub may_splice : (p : PassView) (a : ℕ) (side : Side) (s x : ℕ) (keep : Side) (kept : Edge) → IsInRun p
    → IsPinnedSomewhere p → IsToBeCut p a s x keep kept → MayStep p (Splice a side s x keep)
unfolding refusal
may_splice p a side s x keep kept run pin f =
    let k : Knowledge = knowledge p.view in
    let L : Layout = p.view.layout in
    let n : ℕ = L.nodes in
    let S : Search = search_after idle p.view.log in
    let first = first_known k S f.frozen in
    let below = known_inside L p.view.number p.view.log run.fits run.run.is_part s first in
    let last = known_inside L p.view.number p.view.log run.fits run.run.is_part x (last_known k S f.frozen) in
    let frozen = frozen_chains_may_be_cut L (enough L run.fits) p.view.number p.view.log run.run.is_part s x keep
    f.nodes f.frozen in
    let first_flag = first_flagged k S f.frozen in
    let last_flag = last_flagged k S f.frozen in
    let first_high : 6 ≤ s = flagged_slots_stand_high L (enough L run.fits) p.view.number p.view.log run.run.is_part
    s first_flag.0 first_flag.1 first_flag.2 in
    let last_high : 6 ≤ x = flagged_slots_stand_high L (enough L run.fits) p.view.number p.view.log run.run.is_part x
    last_flag.0 last_flag.1 last_flag.2 in
    record {
      looked = tt;
      allowed = λ m h. passes_then (outside 1 n a || (outside 6 n s || outside 6 n x)) NoSlot _
          (neither (outside 1 n a) (outside 6 n s || outside 6 n x) (slot_inside p a run f.knows_ancestor)
          (neither (outside 6 n s) (outside 6 n x) (not_outside 6 n s first_high below.1)
          (not_outside 6 n x last_high last.1)))
          (passes_then (is_none k.brief.pin) NotPinned _ (ap is_none pin.1)
          (passes_then (not (knows k a && knows k s)) NotHeld _
          (ap not (and_from (knows k a) (knows k s) f.knows_ancestor first))
          (passes_then (not (is_frozen L k s x keep)) NotFrozen None (ap not frozen) refl)));
      ordered = refl;
      births = λ i d below. is_looked L p.view.number p.view.log _
          (births_known k S L s x keep f.nodes f.frozen frozen i d below);
      key = tt;
    }

-- ---- what a splice leaves

module _ (p q : PassView) (a : ℕ) (side : Side) (s x : ℕ) (keep : Side) (fits : IsLayout q.view.layout)
    (tells : TellsRun q) where
  splice_won : (ns : List NodeId) → Stepped p q (Splice a side s x keep) (Cut ns) → SpliceWon p q a side s x keep ns
  unfolding searched
  splice_won ns step =
      let L : Layout = p.view.layout in
      let w : ℕ = p.view.number in
      let low = enough L (subst (λ (y : PassView). IsLayout y.view.layout) step fits) in
      let grows = grown p q (Splice a side s x keep) (Cut ns) step refl fits tells in
      record {
        step = step;
        queues = λ o. ap (λ (y : PassView). held (knowledge y.view).ledgers o) step
            ∙ cuts_enter L low w p.view.log (Splice a side s x keep, Cut ns) grows a s x side keep ns refl o;
        epochs = ap (λ (k : Knowledge). k.brief) (known_after_step p q (Splice a side s x keep) (Cut ns) step
            ∙ learn_cut w (knowledge p.view) a side s x keep ns);
        cut = ap (λ (S : Search). S.cut) (search_is p q (Splice a side s x keep) (Cut ns) step);
      }

  -- the nodes are those of the chain as it was known
  as_known : (ns known : List NodeId) → Stepped p q (Splice a side s x keep) (Cut ns)
      → FrozenTo (Tells p) x keep s known → ns ≡ known
  as_known ns known step frozen =
      let L : Layout = p.view.layout in
      cuts_are_as_known L (enough L (subst (λ (y : PassView). IsLayout y.view.layout) step fits)) p.view.number
      p.view.log (Splice a side s x keep, Cut ns)
      (grown p q (Splice a side s x keep) (Cut ns) step refl fits tells) a s x side keep ns known refl frozen

  pub splices_won : (r : Result Unit Edge) → Stepped p q (Splice a side s x keep) (splice_reply p.view s x keep r)
      → IfOk r (λ u. (ns : List NodeId) → FrozenTo (Tells p) x keep s ns → SpliceWon p q a side s x keep ns)
  splices_won (Ok u) step = λ ns frozen. splice_won ns
      (subst (λ (ms : List NodeId). Stepped p q (Splice a side s x keep) (Cut ms))
      (as_known (nodes_cut p.view s x keep) ns step frozen) step)
  splices_won (Err e) step = tt

  pub splices_lost : (r : Result Unit Edge) → Stepped p q (Splice a side s x keep) (splice_reply p.view s x keep r)
      → Tells p (KnowsSlot a) → IfErr r (λ e. SpliceLost p q a side s x keep e)
  unfolding searched
  splices_lost (Ok u) step known = tt
  splices_lost (Err e) step known = record {
    step = step;
    found = edge_found p q (Splice a side s x keep) (Lost e) a side e (BySplice a s x side keep e) step refl fits
        tells known;
    only = only_reads p q a side e (known_after_step p q (Splice a side s x keep) (Lost e) step
        ∙ learn_splice_lost p.view.number (knowledge p.view) a side s x keep e)
        (search_is p q (Splice a side s x keep) (Lost e) step);
  }

pub only_cuts : (p q : PassView) (a : ℕ) (side : Side) (s x : ℕ) (keep : Side) (r : Result Unit Edge)
    → Stepped p q (Splice a side s x keep) (splice_reply p.view s x keep r) → OnlyCuts p q
unfolding searched
only_cuts p q a side s x keep (Ok u) step =
    let ns : List NodeId = nodes_cut p.view s x keep in
    let k = known_after_step p q (Splice a side s x keep) (Cut ns) step
    ∙ learn_cut p.view.number (knowledge p.view) a side s x keep ns in
    let S = search_is p q (Splice a side s x keep) (Cut ns) step in
    record {
      private = ap (λ (y : Knowledge). y.drafts) k;
      call = ap (λ (y : Search). y.call) S;
      linked = ap (λ (y : Search). y.linked) S;
      swapped = ap (λ (y : Search). y.swapped) S;
      flagged = ap (λ (y : Search). y.flagged) S;
    }
only_cuts p q a side s x keep (Err e) step =
    let k = known_after_step p q (Splice a side s x keep) (Lost e) step
    ∙ learn_splice_lost p.view.number (knowledge p.view) a side s x keep e in
    let all = only_reads p q a side e k (search_is p q (Splice a side s x keep) (Lost e) step) in
    record { private = all.private; call = all.call; linked = all.linked; swapped = all.swapped; flagged = all.flagged }
