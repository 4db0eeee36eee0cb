-- Marks: what a pass is to know before it tags or flags an edge, and what it knows behind it.
use Rattle.std.proofs.Common.{◌≡◌, ℕ, ◌==◌, true, false, not, ◌&&◌, ◌||◌, List, refl, sym, ap, subst, ◌∙◌}
use Rattle.std.specs.Prelude.{Option, Some, None, is_none, is_some, unwrap_or, Result, Ok, Err, IfOk, IfErr}
use Rattle.std.specs.List.{list_any}
use Rattle.std.proofs.lemmas.Bool.{and_from, eq-eqb}
use Rattle.nm_edge.specs.Edges.{Edge, other, tagged}
use Rattle.nm_edge.specs.Layouts.{Layout, IsLayout}
use Rattle.nm_edge.specs.declared.edge.Side.{Side}
use Rattle.nm_edge.specs.declared.node.NodeId.{NodeId}
use Rattle.nm_model.specs.declared.event.Event.{Event}
use Rattle.nm_model.specs.declared.event.Event.TheVariants.{Flag, Tag}
use Rattle.nm_model.specs.declared.reply.Refused.TheVariants.{NoSlot, NotPinned, NotHeld, NotFrozen, NotOrdered}
use Rattle.nm_model.specs.declared.reply.Reply.{Reply}
use Rattle.nm_model.specs.declared.reply.Reply.TheVariants.{Flagged, Lost, Was}
use Rattle.nm_model.specs.declared.arrivals.Arrival.{Arrival}
use Rattle.nm_model.specs.Knowledge.{Knowledge, knows, knows_leaf, read, is_flagged}
use Rattle.nm_model.specs.Learning.{read_edge}
use Rattle.nm_model.specs.Maps.{is_number}
use Rattle.nm_model.specs.Ordered.{ended_at, may_flag_at, flags_in_order}
use Rattle.nm_model.specs.Searches.{Search, idle, searched, is_by, is_side}
use Rattle.nm_model.specs.Step.{outside, refusal}
use Rattle.nm_model.specs.Walks.{Entry, search_after}
use Rattle.nm_laws.proofs.Learned.{learn_flagged, learn_flag_lost, learn_was}
use Rattle.nm_order.specs.Facts.Fact.{KnowsSlot, KnowsLeaf, IsTagged, IsFlagged, IsFrozen, IsBorn}
use Rattle.nm_order.specs.Told.{TellsEdge}
use Rattle.nm_order.specs.Told.TellsEdge.{ByFlag, ByTag}
use Rattle.nm_order.proofs.LinkedBirths.{looked_birth}
use Rattle.nm_order.proofs.ArrivalsOfLooks.{any_there, same_side}
use Rattle.nm_order.proofs.TaughtFacts.{edges_are_learned, flags_are_learned, tags_are_learned, tags_freeze}
use Rattle.nm_order.proofs.ToldLaws.{edges_stay_inside, flagged_lead_high, flagged_stand_high, tags_lead, twins_are_told}
use Rattle.nm_steps.specs.Told.{known_as}
use Rattle.nm_steps.specs.Rules.{knowledge, known_births}
use Rattle.nm_steps.specs.Steps.{PassView, MayStep, Stepped, flag_reply}
use Rattle.nm_steps.proofs.AfterSteps.{TellsRun, is_join}
use Rattle.nm_steps.proofs.Extending.{neither}
use Rattle.nm_walks.specs.Telling.{Tells, IsInRun, OnlyLooks, IsPinnedSomewhere}
use Rattle.nm_walks.specs.Marking.{TagTold, EdgeFound, IsToBeFlagged, OnlyFlags, FlagWon, FlagLost}
use Rattle.nm_epoch.proofs.Entries.{search_is}
use Rattle.nm_walks.proofs.Looks.{enough, known_inside, grown, told_after}
use Rattle.nm_model.proofs.Checks.{not_outside, passes_then}
use Rattle.nm_steps.proofs.Presence.{known_after_step}

-- ---- checks

-- a known slot is in the layout
pub slot_inside : (p : PassView) (x : ℕ) → IsInRun p → Tells p (KnowsSlot x) → outside 1 p.view.layout.nodes x ≡ false
slot_inside p x run known =
    let range = known_inside p.view.layout p.view.number p.view.log run.fits run.run.is_part x known in
    not_outside 1 p.view.layout.nodes x range.0 range.1

-- ---- what a step leaves

-- an edge was read, and nothing else
pub only_reads : (p q : PassView) (x : ℕ) (side : Side) (e : Edge)
    → knowledge q.view ≡ read_edge (knowledge p.view) x side e
    → search_after idle q.view.log ≡ search_after idle p.view.log → OnlyLooks p q
only_reads p q x side e k s = record {
  epochs = ap (λ (y : Knowledge). y.brief) k;
  private = ap (λ (y : Knowledge). y.drafts) k;
  ledgers = ap (λ (y : Knowledge). y.ledgers) k;
  call = ap (λ (y : Search). y.call) s;
  linked = ap (λ (y : Search). y.linked) s;
  swapped = ap (λ (y : Search). y.swapped) s;
  flagged = ap (λ (y : Search). y.flagged) s;
  cut = ap (λ (y : Search). y.cut) s;
}

-- an edge was found by an exchange that was lost
pub edge_found : (p q : PassView) (event : Event) (r : Reply) (x : ℕ) (side : Side) (e : Edge)
    → TellsEdge (event, r) x side e → Stepped p q event r → is_join event ≡ false → IsLayout q.view.layout
    → TellsRun q → Tells p (KnowsSlot x) → EdgeFound p q x side e
edge_found p q event r x side e told step other fits tells known =
    let L : Layout = p.view.layout in
    let w : ℕ = p.view.number in
    let log : List Entry = p.view.log in
    let low = enough L (subst (λ (s : PassView). IsLayout s.view.layout) step fits) in
    let grows = grown p q event r step other fits tells in
    let after = told_after p q event r step in
    let learned = edges_are_learned L low w log (event, r) grows x side e told known in
    record {
      learned = record {
        leads = λ some. after (KnowsSlot e.slot) (learned.leads some);
        leaf = λ null. after (KnowsLeaf x) (learned.leaf null);
        tagged = λ tag. after (IsTagged x side e.slot) (learned.tagged tag);
        flagged = λ flag. after (IsFlagged x side e.slot) (learned.flagged flag);
      };
      twin = λ to tag. twins_are_told L low w log (event, r) grows x side e to told tag;
      within = edges_stay_inside L low w log (event, r) grows x side e told;
      high = flagged_lead_high L low w log (event, r) grows x side e told known;
      owner = flagged_stand_high L low w log (event, r) grows x side e told known;
    }

-- ---- a tag

pub may_tag : (p : PassView) (x : ℕ) (side : Side) → IsInRun p → IsPinnedSomewhere p → Tells p (KnowsSlot x)
    → ((to : ℕ) × Tells p (IsFlagged x (other side) to)) → MayStep p (Tag x side)
unfolding refusal
may_tag p x side run pin known flag =
    let k : Knowledge = knowledge p.view in
    record {
      looked = tt;
      allowed = λ m h. passes_then (outside 1 p.view.layout.nodes x) NoSlot _ (slot_inside p x run known)
          (passes_then (is_none k.brief.pin) NotPinned _ (ap is_none pin.1)
          (passes_then (not (knows k x)) NotHeld _ (ap not known)
          (passes_then (not (is_flagged (read k x (other side)))) NotFrozen None
          (ap not (ap is_flagged flag.1.1 ∙ flag.1.2)) refl)));
      ordered = refl;
      births = tt;
      key = tt;
    }

module _ (p q : PassView) (x : ℕ) (side : Side) (e : Edge) (step : Stepped p q (Tag x side) (Was e)) where
  pub tag_told : IsLayout q.view.layout → TellsRun q → Tells p (KnowsSlot x) → TagTold p q x side e
  tag_told fits tells known =
      let L : Layout = p.view.layout in
      let w : ℕ = p.view.number in
      let log : List Entry = p.view.log in
      let entry : Entry = (Tag x side, Was e) in
      let low = enough L (subst (λ (s : PassView). IsLayout s.view.layout) step fits) in
      let grows = grown p q (Tag x side) (Was e) step refl fits tells in
      let after = told_after p q (Tag x side) (Was e) step in
      let learned = edges_are_learned L low w log entry grows x side e (ByTag x side e) known in
      let lead = tags_lead L low w log entry grows x side e refl in
      record {
        marked = after (IsTagged x side e.slot) (tags_are_learned L low w log entry grows x side e refl);
        frozen = after (IsFrozen x side (tagged e)) (tags_freeze L low w log entry grows x side e refl);
        not_null = lead;
        leads = after (KnowsSlot e.slot) (learned.leads lead);
        within = edges_stay_inside L low w log entry grows x side e (ByTag x side e);
        flagged = λ flag. after (IsFlagged x side e.slot) (learned.flagged flag);
      }

  pub only_tags : OnlyLooks p q
  unfolding searched
  only_tags = only_reads p q x side (tagged e) (known_after_step p q (Tag x side) (Was e) step
      ∙ learn_was p.view.number (knowledge p.view) x side e) (search_is p q (Tag x side) (Was e) step)

-- ---- a flag

-- a walk has ended at the leaf, and that had its key
ends_there : (key p leaf : ℕ) (side : Side) (a : Arrival) → a.slot ≡ leaf → a.parent ≡ p → a.side ≡ side
    → a.ended ≡ true → a.key ≡ Some key → may_flag_at key p side leaf a ≡ true
ends_there key p leaf side a slot parent by ended is =
    and_from (is_by leaf p side a) (ended_at key a)
    (and_from (a.slot == leaf) ((a.parent == p) && is_side a.side side) (eq-eqb a.slot leaf slot)
    (and_from (a.parent == p) (is_side a.side side) (eq-eqb a.parent p parent)
    (ap (λ (d : Side). is_side d side) by ∙ same_side side)))
    (and_from a.ended (is_number a.key key) ended (ap (λ o. is_number o key) is ∙ eq-eqb key key refl))

-- so the flag is in order
in_order : (p : PassView) (x : ℕ) (side : Side) (leaf : ℕ) → IsToBeFlagged p x side leaf
    → flags_in_order (search_after idle p.view.log) (search_after idle p.view.log).call x side leaf ≡ true
in_order p x side leaf f =
    let s : Search = search_after idle p.view.log in
    let a = f.ended.0 in
    ap (λ o. flags_in_order s o x side leaf) f.call
    ∙ and_from (is_none s.flagged) (list_any (may_flag_at f.key x side leaf) s.walks) (ap is_none f.unflagged)
    (any_there (may_flag_at f.key x side leaf) s.walks a.arrival a.among
    (ends_there f.key x leaf side a.arrival a.is_slot a.is_parent a.is_side f.ended.2 f.ended.1))

pub may_flag : (p : PassView) (x : ℕ) (side : Side) (leaf : ℕ) → IsInRun p → IsPinnedSomewhere p
    → IsToBeFlagged p x side leaf → MayStep p (Flag x side leaf)
unfolding refusal
may_flag p x side leaf run pin f =
    let k : Knowledge = knowledge p.view in
    let n : ℕ = p.view.layout.nodes in
    let range = known_inside p.view.layout p.view.number p.view.log run.fits run.run.is_part leaf f.knows_leaf in
    let s : Search = search_after idle p.view.log in
    record {
      looked = tt;
      allowed = λ m h. passes_then (outside 1 n x || outside 6 n leaf) NoSlot _
          (neither (outside 1 n x) (outside 6 n leaf) (slot_inside p x run f.knows_parent)
          (not_outside 6 n leaf f.high range.1))
          (passes_then (is_none k.brief.pin) NotPinned _ (ap is_none pin.1)
          (passes_then (not (knows k x && (knows k leaf && knows_leaf k leaf))) NotHeld None
          (ap not (and_from (knows k x) (knows k leaf && knows_leaf k leaf) f.knows_parent
          (and_from (knows k leaf) (knows_leaf k leaf) f.knows_leaf f.is_leaf))) refl));
      ordered = passes_then (not (flags_in_order s s.call x side leaf)) NotOrdered None
          (ap not (in_order p x side leaf f)) refl;
      births = ap is_some (looked_birth p.view.layout p.view.number p.view.log leaf f.born.0 f.born.1);
      key = tt;
    }

module _ (p q : PassView) (x : ℕ) (side : Side) (leaf : ℕ) (fits : IsLayout q.view.layout) (tells : TellsRun q) where
  flag_won : (n : NodeId) → n.slot ≡ leaf → Stepped p q (Flag x side leaf) (Flagged n) → FlagWon p q x side n
  unfolding searched
  flag_won n is step =
      let L : Layout = p.view.layout in
      let low = enough L (subst (λ (s : PassView). IsLayout s.view.layout) step fits) in
      let grows = grown p q (Flag x side leaf) (Flagged n) step refl fits tells in
      record {
        step = subst (λ (l : ℕ). Stepped p q (Flag x side l) (Flagged n)) (sym is) step;
        known = subst (λ (l : ℕ). Tells q (IsFlagged x side l)) (sym is)
            (told_after p q (Flag x side leaf) (Flagged n) step (IsFlagged x side leaf)
            (flags_are_learned L low p.view.number p.view.log (Flag x side leaf, Flagged n) grows x leaf side n
            refl));
        flagged = ap (λ (s : Search). s.flagged) (search_is p q (Flag x side leaf) (Flagged n) step);
      }

  pub flags_won : (r : Result Unit Edge) → Stepped p q (Flag x side leaf) (flag_reply p.view leaf r)
      → IfOk r (λ u. (b : ℕ) → Tells p (IsBorn leaf b) → FlagWon p q x side (record { slot = leaf; birth = b }))
  flags_won (Ok u) step = λ b born. flag_won (record { slot = leaf; birth = b }) refl
      (subst (λ (o : Option ℕ). Stepped p q (Flag x side leaf)
      (Flagged (record { slot = leaf; birth = unwrap_or o 0 })))
      (looked_birth p.view.layout p.view.number p.view.log leaf b born) step)
  flags_won (Err e) step = tt

  pub flags_lost : (r : Result Unit Edge) → Stepped p q (Flag x side leaf) (flag_reply p.view leaf r)
      → Tells p (KnowsSlot x) → IfErr r (λ e. FlagLost p q x side leaf e)
  unfolding searched
  flags_lost (Ok u) step known = tt
  flags_lost (Err e) step known = record {
    step = step;
    found = edge_found p q (Flag x side leaf) (Lost e) x side e (ByFlag x leaf side e) step refl fits tells known;
    flagged = ap (λ (s : Search). s.flagged) (search_is p q (Flag x side leaf) (Lost e) step);
  }

pub only_flags : (p q : PassView) (x : ℕ) (side : Side) (leaf : ℕ) (r : Result Unit Edge)
    → Stepped p q (Flag x side leaf) (flag_reply p.view leaf r) → OnlyFlags p q
unfolding searched
only_flags p q x side leaf (Ok u) step =
    let n : NodeId = known_as (known_births p.view) leaf in
    let k = known_after_step p q (Flag x side leaf) (Flagged n) step
    ∙ learn_flagged p.view.number (knowledge p.view) x side leaf n in
    let s = search_is p q (Flag x side leaf) (Flagged n) step in
    record {
      epochs = ap (λ (y : Knowledge). y.brief) k;
      private = ap (λ (y : Knowledge). y.drafts) k;
      ledgers = ap (λ (y : Knowledge). y.ledgers) k;
      call = ap (λ (y : Search). y.call) s;
      linked = ap (λ (y : Search). y.linked) s;
      swapped = ap (λ (y : Search). y.swapped) s;
      cut = ap (λ (y : Search). y.cut) s;
    }
only_flags p q x side leaf (Err e) step =
    let k = known_after_step p q (Flag x side leaf) (Lost e) step
    ∙ learn_flag_lost p.view.number (knowledge p.view) x side leaf e in
    let all = only_reads p q x side e k (search_is p q (Flag x side leaf) (Lost e) step) in
    record {
      epochs = all.epochs;
      private = all.private;
      ledgers = all.ledgers;
      call = all.call;
      linked = all.linked;
      swapped = all.swapped;
      cut = all.cut;
    }
