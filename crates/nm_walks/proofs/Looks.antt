-- A look at a known node is allowed under a pin, and its log goes on.
use Rattle.std.proofs.Common.{◌≡◌, ℕ, ◌≤◌, Bool, true, false, not, cond, ◌&&◌, List, [], ◌∷◌, ◌++◌, refl, sym, ap, subst, ◌∙◌, arith}
use Rattle.std.specs.Prelude.{Option, Some, None, is_none}
use Rattle.std.proofs.lemmas.Bool.{cond-false}
use Rattle.nm_edge.specs.Edges.{Edge}
use Rattle.nm_edge.specs.Layouts.{Layout, IsLayout}
use Rattle.nm_edge.specs.declared.edge.Side.{Side}
use Rattle.nm_edge.specs.declared.edge.Side.TheVariants.{Left}
use Rattle.nm_model.specs.declared.event.Event.{Event}
use Rattle.nm_model.specs.declared.event.Event.TheVariants.{Look}
use Rattle.nm_model.specs.declared.event.Field.{Field}
use Rattle.nm_model.specs.declared.event.Field.TheVariants.{Key as KeyOf, Edge as EdgeOn, Birth}
use Rattle.nm_model.specs.declared.reply.Refused.TheVariants.{NoSlot, NotPinned, NotHeld}
use Rattle.nm_model.specs.declared.reply.Reply.{Reply}
use Rattle.nm_model.specs.declared.reply.Reply.TheVariants.{KeyIs, EdgeIs, BirthIs}
use Rattle.nm_model.specs.Knowledge.{Knowledge, knows, is_private}
use Rattle.nm_model.specs.Ordered.{Configuration, ordered, after_in, trace_in}
use Rattle.nm_model.specs.Runs.{State, of}
use Rattle.nm_model.specs.Searches.{Search, idle, searched, look_for, side_of}
use Rattle.nm_model.specs.declared.arrivals.Call.{Call}
use Rattle.nm_model.specs.Learning.{learn, look_known, look_private}
use Rattle.nm_laws.proofs.Learned.{learn_look}
use Rattle.nm_laws.proofs.Retired.{layout_after}
use Rattle.nm_order.proofs.FactLaws.{facts_are_true}
use Rattle.nm_order.proofs.PartsOfRuns.{logs_tell}
use Rattle.nm_steps.proofs.Presence.{known_push}
use Rattle.nm_model.specs.Step.{outside, refusal}
use Rattle.nm_model.specs.Walks.{Entry, begins_anew, search_after}
use Rattle.nm_order.specs.Facts.{Fact, Holds}
use Rattle.nm_order.specs.Facts.Fact.{KnowsSlot, KnowsLeaf, IsBorn, IsTagged, IsFlagged, Came, ReadKey, EndedAt}
use Rattle.nm_order.specs.Logs.{part_of, known_by, IsLogOf}
use Rattle.nm_order.specs.Told.TellsEdge.{ByLook}
use Rattle.nm_order.proofs.FactStays.{facts_stay}
use Rattle.nm_order.proofs.LastEntries.{ToldBy, told_by_part, search_more}
use Rattle.nm_order.proofs.OrderedLaws.{law_of_state}
use Rattle.nm_order.proofs.TaughtFacts.{edges_are_learned, births_are_learned}
use Rattle.nm_order.proofs.TaughtWalks.{walks_begin, walks_learn_keys, walks_go_on, walks_end}
use Rattle.nm_order.proofs.ToldLaws.{twins_are_told, flags_are_told, flagged_lead_high, flagged_stand_high, edges_stay_inside, root_leads, leaves_lead_nowhere, low_keys_stand_high}
use Rattle.nm_steps.specs.Rules.{knowledge}
use Rattle.nm_steps.specs.Steps.{PassView, MayStep, Stepped, HasSeenAllOf}
use Rattle.nm_steps.proofs.AfterSteps.{TellsRun, run_after, is_join}
use Rattle.nm_steps.proofs.Seeing.{stores_same}
use Rattle.nm_walks.specs.Telling.{Tells, IsInRun, GoesOn, OnlyLooks, IsPinnedSomewhere, KeyTold, EdgeTold}
use Rattle.nm_model.proofs.Checks.{not_outside}

pub enough : (L : Layout) → IsLayout L → 5 ≤ L.nodes
enough L fits = let least = fits.least in omega arith

-- ---- a look is allowed

-- a known slot is one of the layout
pub known_inside : (L : Layout) (w : ℕ) (log : List Entry) → IsLayout L → IsLogOf L w log → (x : ℕ)
    → knows (known_by L w log) x ≡ true → (1 ≤ x) × (x ≤ L.nodes)
known_inside L w log fits l x known = go (told_by_part L (enough L fits) w l.worker l.turns l.keys)
  where
    go : ToldBy L w (part_of w (trace_in (ordered L) l.turns)) (after_in (ordered L) l.turns) → (1 ≤ x) × (x ≤ L.nodes)
    go told =
        let c : Configuration = after_in (ordered L) l.turns in
        let law = law_of_state L (enough L fits) c told.is_ordered in
        let layout : c.state.layout ≡ L = ap (λ (s : State). s.layout) told.is_ordered.leads
        ∙ layout_after L told.is_ordered.events in
        subst (λ (M : Layout). (1 ≤ x) × (x ≤ M.nodes)) layout
        (law.1.tree.known w x (ap (λ (k : Knowledge). knows k x) (told.knows ∙ ap (known_by L w) l.is_part) ∙ known))

-- the checks of a look, one after the other
no_refusal : (a b c : Bool) → a ≡ false → b ≡ false → c ≡ false
    → cond a (Some NoSlot) (cond b (Some NotPinned) (cond c (Some NotHeld) None)) ≡ None
no_refusal a b c x y z = rw (x, y, z) refl

pub right_false : (a b : Bool) → b ≡ false → (a && b) ≡ false
right_false true b is = is
right_false false b is = refl

pub may_look : (p : PassView) (x : ℕ) (f : Field) → IsInRun p → IsPinnedSomewhere p → Tells p (KnowsSlot x)
    → MayStep p (Look x f)
unfolding refusal
may_look p x f run pin known =
    let k : Knowledge = knowledge p.view in
    let range = known_inside p.view.layout p.view.number p.view.log run.fits run.run.is_part x known in
    record {
      looked = tt;
      allowed = λ m h. no_refusal (outside 1 p.view.layout.nodes x) (not (is_private k x) && is_none k.brief.pin)
          (not (is_private k x) && not (knows k x))
          (not_outside 1 p.view.layout.nodes x range.0 range.1)
          (right_false (not (is_private k x)) (is_none k.brief.pin) (ap is_none pin.1))
          (right_false (not (is_private k x)) (not (knows k x)) (ap not known));
      ordered = refl;
      births = tt;
      key = tt;
    }

-- ---- the log goes on

-- the log after a step is a part of a run, with that entry at its end
pub grown : (p q : PassView) (e : Event) (r : Reply) → Stepped p q e r → is_join e ≡ false → IsLayout q.view.layout
    → TellsRun q → IsLogOf p.view.layout p.view.number (p.view.log ++ (e, r) ∷ [])
grown p q e r step other fits tells =
    subst (λ (s : PassView). IsLogOf s.view.layout s.view.number s.view.log) step
    (run_after p q e r (ap (λ (s : PassView). s.view.log) step) other tells).is_part

-- a fact of the longer log is one of the pass after the step
pub told_after : (p q : PassView) (e : Event) (r : Reply) → Stepped p q e r → (fact : Fact)
    → Holds p.view.layout p.view.number (p.view.log ++ (e, r) ∷ []) fact → Tells q fact
told_after p q e r step fact holds = subst (λ (s : PassView). Tells s fact) (sym step) holds

pub goes_on : (p q : PassView) (e : Event) (r : Reply) → Stepped p q e r → HasSeenAllOf q p
    → q.view.stores ≡ p.view.stores → is_join e ≡ false → begins_anew (e, r) ≡ false → IsLayout q.view.layout
    → TellsRun q → GoesOn p q
goes_on p q e r step past stored other stands fits tells =
    let layout : IsLayout p.view.layout = subst (λ (s : PassView). IsLayout s.view.layout) step fits in
    record {
      same = step ∙ ap (λ (log : List Entry). record p
          { view = record p.view { log = log; past = q.view.past; stores = q.view.stores } })
          (sym (ap (λ (s : PassView). s.view.log) step));
      past = past;
      run = record { fits = fits; run = run_after p q e r (ap (λ (s : PassView). s.view.log) step) other tells };
      stores = stores_same q.view.stores p.view.stores stored;
      keeps = λ fact holds. told_after p q e r step fact
          (facts_stay p.view.layout (enough p.view.layout layout) p.view.number p.view.log (e, r)
          (grown p q e r step other fits tells) stands fact holds);
    }

-- ---- what a look tells

module _ (p q : PassView) (x : ℕ) (fits : IsLayout q.view.layout) (tells : TellsRun q) where
  pub key_told : (key : ℕ) → Stepped p q (Look x KeyOf) (KeyIs key) → KeyTold p q x key
  key_told key step =
      let L : Layout = p.view.layout in
      let low = enough L (subst (λ (s : PassView). IsLayout s.view.layout) step fits) in
      let grows = grown p q (Look x KeyOf) (KeyIs key) step refl fits tells in
      record {
        high = low_keys_stand_high L low p.view.number p.view.log (Look x KeyOf, KeyIs key) grows x key refl;
        reads = λ since k parent side came. told_after p q (Look x KeyOf) (KeyIs key) step
            (ReadKey since k x parent side key)
            (walks_learn_keys L low p.view.number p.view.log (Look x KeyOf, KeyIs key) grows since k x parent key
            side came refl);
      }

  pub birth_told : (birth : ℕ) → Stepped p q (Look x Birth) (BirthIs birth) → Tells p (KnowsSlot x)
      → Tells q (IsBorn x birth)
  birth_told birth step known =
      let L : Layout = p.view.layout in
      let low = enough L (subst (λ (s : PassView). IsLayout s.view.layout) step fits) in
      told_after p q (Look x Birth) (BirthIs birth) step (IsBorn x birth)
      (births_are_learned L low p.view.number p.view.log (Look x Birth, BirthIs birth)
      (grown p q (Look x Birth) (BirthIs birth) step refl fits tells) x birth refl known)

  pub edge_told : (side : Side) (e : Edge) → Stepped p q (Look x (EdgeOn side)) (EdgeIs e) → Tells p (KnowsSlot x)
      → EdgeTold p q x side e
  edge_told side e step known =
      let L : Layout = p.view.layout in
      let w : ℕ = p.view.number in
      let log : List Entry = p.view.log in
      let entry : Entry = (Look x (EdgeOn side), EdgeIs e) in
      let low = enough L (subst (λ (s : PassView). IsLayout s.view.layout) step fits) in
      let grows = grown p q (Look x (EdgeOn side)) (EdgeIs e) step refl fits tells in
      let after = told_after p q (Look x (EdgeOn side)) (EdgeIs e) step in
      let learned = edges_are_learned L low w log entry grows x side e (ByLook x side e) known in
      let told = ByLook x side e in
      let roots = λ (at : x ≡ 2) (left : side ≡ Left). root_leads L low w log entry grows e
      (rw (at, left) (ByLook 2 Left e)) in
      record {
        learned = record {
          leads = λ some. after (KnowsSlot e.slot) (learned.leads some);
          leaf = λ null. after (KnowsLeaf x) (learned.leaf null);
          tagged = λ tag. after (IsTagged x side e.slot) (learned.tagged tag);
          flagged = λ flag. after (IsFlagged x side e.slot) (learned.flagged flag);
        };
        twin = λ to tag. twins_are_told L low w log entry grows x side e to told tag;
        again = λ to flag. flags_are_told L low w log entry grows x side e to told flag;
        null = λ leaf. leaves_lead_nowhere L low w log entry grows x side e told leaf;
        within = edges_stay_inside L low w log entry grows x side e told;
        high = flagged_lead_high L low w log entry grows x side e told known;
        owner = flagged_stand_high L low w log entry grows x side e told known;
        root = roots;
        begins = λ since k walks at left. after (Came since k e.slot 2 Left)
            (walks_begin L low w log entry grows since k e walks (rw (at, left) refl) (roots at left));
        goes = λ since k parent v up read on some. subst (λ (d : Side). Tells q (Came since k e.slot x d)) (sym on)
            (after (Came since k e.slot x (side_of k v))
            (walks_go_on L low w log entry grows since k x parent v up e read (rw on refl) some));
        ends = λ since k parent v up read on null. after (EndedAt since k x parent up v)
            (walks_end L low w log entry grows since k x parent v up e read (rw on refl) null);
      }

-- ---- what a look leaves

-- what is known of nodes aside, a worker knows what it knew
record SameBut (k l : Knowledge) : Type 0 where
  brief : l.brief ≡ k.brief
  drafts : l.drafts ≡ k.drafts
  ledgers : l.ledgers ≡ k.ledgers

known_look : (k : Knowledge) (x : ℕ) (f : Field) (r : Reply) → SameBut k (look_known k x f r)
known_look k x (EdgeOn side) (EdgeIs e) = record { brief = refl; drafts = refl; ledgers = refl }
known_look k x Birth (BirthIs b) = record { brief = refl; drafts = refl; ledgers = refl }
known_look k x _ _ = record { brief = refl; drafts = refl; ledgers = refl }

looked : (w : ℕ) (k : Knowledge) (x : ℕ) (f : Field) (r : Reply) → is_private k x ≡ false
    → SameBut k (learn w k (Look x f) r)
looked w k x f r shared = subst (λ (l : Knowledge). SameBut k l)
    (sym (learn_look w k x f r ∙ cond-false (is_private k x) (look_private k x f r) (look_known k x f r) shared))
    (known_look k x f r)

-- and its walks aside, a search is as it was
record SameSearch (s t : Search) : Type 0 where
  call : t.call ≡ s.call
  linked : t.linked ≡ s.linked
  swapped : t.swapped ≡ s.swapped
  flagged : t.flagged ≡ s.flagged
  cut : t.cut ≡ s.cut

searching : (s : Search) (o : Option Call) (x : ℕ) (f : Field) (r : Reply) → SameSearch s (look_for s o x f r)
searching s None x f r = record { call = refl; linked = refl; swapped = refl; flagged = refl; cut = refl }
searching s (Some c) x f r = record { call = refl; linked = refl; swapped = refl; flagged = refl; cut = refl }

pub only_looks : (p q : PassView) (x : ℕ) (f : Field) (r : Reply) → Stepped p q (Look x f) r → IsInRun p
    → Tells p (KnowsSlot x) → OnlyLooks p q
unfolding searched
only_looks p q x f r step run known =
    let facts = facts_are_true p.view.layout (enough p.view.layout run.fits) p.view.number p.view.log run.run.is_part
    (KnowsSlot x) known in
    let shared : is_private (knowledge p.view) x ≡ false = ap (λ (k : Knowledge). is_private k x)
    (sym (then_known p run)) ∙ facts.not_private p.view.number in
    let k = looked p.view.number (knowledge p.view) x f r shared in
    let s = searching (search_after idle p.view.log) (search_after idle p.view.log).call x f r in
    let known_is : knowledge q.view ≡ learn p.view.number (knowledge p.view) (Look x f) r = ap
    (λ (y : PassView). knowledge y.view) step ∙ known_push p.view.number p.view.layout p.view.log (Look x f, r) in
    let search_is : search_after idle q.view.log ≡ look_for (search_after idle p.view.log)
    (search_after idle p.view.log).call x f r = ap (λ (y : PassView). search_after idle y.view.log) step
    ∙ search_more idle p.view.log (Look x f, r) in
    record {
      epochs = ap (λ (y : Knowledge). y.brief) known_is ∙ k.brief;
      private = ap (λ (y : Knowledge). y.drafts) known_is ∙ k.drafts;
      ledgers = ap (λ (y : Knowledge). y.ledgers) known_is ∙ k.ledgers;
      call = ap (λ (y : Search). y.call) search_is ∙ s.call;
      linked = ap (λ (y : Search). y.linked) search_is ∙ s.linked;
      swapped = ap (λ (y : Search). y.swapped) search_is ∙ s.swapped;
      flagged = ap (λ (y : Search). y.flagged) search_is ∙ s.flagged;
      cut = ap (λ (y : Search). y.cut) search_is ∙ s.cut;
    }
  where
    then_known : (p : PassView) (run : IsInRun p) → of (after_in (ordered p.view.layout) run.run.is_part.turns).state
        p.view.number ≡ knowledge p.view
    then_known p run = let l = run.run.is_part in
        logs_tell p.view.layout l.turns p.view.number l.worker ∙ ap (known_by p.view.layout p.view.number) l.is_part
