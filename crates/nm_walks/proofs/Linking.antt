-- What the step that links a new node asks, and what it leaves.
use Rattle.std.proofs.Common.{◌≡◌, ℕ, ◌<◌, inl, inr, ◌==◌, Bool, true, false, not, cond, ◌&&◌, ◌||◌, refl, sym, ap, subst, ◌∙◌, arith}
use Rattle.std.specs.Prelude.{Option, Some, None, is_some, is_none, unwrap_or, nat_lt, nat_le, Result, Ok, Err, IfOk, IfErr}
use Rattle.std.specs.List.{list_any}
use Rattle.std.proofs.lemmas.Bool.{cond-true, cond-false, cond_both, eq-eqb, ne_eqb, and_from, lt-ltb, le-ltb, le-leb}
use Rattle.std.proofs.lemmas.List.Folds.{list_any_at}
use Rattle.nm_edge.specs.Edges.{Edge}
use Rattle.nm_edge.specs.Layouts.{Layout, IsLayout}
use Rattle.nm_edge.specs.Ranges.{covers}
use Rattle.nm_edge.specs.declared.edge.Side.{Side}
use Rattle.nm_edge.specs.declared.edge.Side.TheVariants.{Left, Right}
use Rattle.nm_edge.specs.declared.node.NodeId.{NodeId}
use Rattle.nm_model.specs.declared.event.Event.TheVariants.{Link}
use Rattle.nm_model.specs.declared.knowledge.Draft.{Draft}
use Rattle.nm_model.specs.declared.reply.Refused.TheVariants.{NoSlot, NotPinned, NotHeld, NotPrivate, NotReady, NotOrdered}
use Rattle.nm_model.specs.declared.reply.Reply.TheVariants.{Linked, Lost}
use Rattle.nm_model.specs.declared.arrivals.Arrival.{Arrival}
use Rattle.nm_model.specs.declared.arrivals.Call.{Call}
use Rattle.nm_model.specs.Knowledge.{Knowledge, knows, is_private, draft_of, knows_leaf, beside}
use Rattle.nm_model.specs.Learning.{linked_in, read_edge}
use Rattle.nm_model.specs.Maps.{get, without, is_number}
use Rattle.nm_model.specs.Ordered.{disorder, links_in_order, has_put_in, may_link_at, may_link_between, shows_place, narrows, is_covered, parts, parts_from, forks_over, new_leaf}
use Rattle.nm_model.specs.Searches.{Search, idle, searched, is_by, is_first, is_side, goes_on as goes_by, turns}
use Rattle.nm_model.specs.Step.{refusal, outside, is_leaf_draft, is_fork_over, is_linkable, may_be_over, node_linked}
use Rattle.nm_model.specs.Walks.{Entry, begins_anew, search_after}
use Rattle.nm_laws.proofs.Learned.{learn_linked, learn_link_lost}
use Rattle.nm_model.proofs.Numbers.{number_is}
use Rattle.nm_model.proofs.Tables.{Ascends, ascends-without}
use Rattle.nm_order.specs.Facts.{Arrived}
use Rattle.nm_order.specs.Facts.Since.{ThePin}
use Rattle.nm_order.specs.Facts.Fact.{KnowsSlot, KnowsLeaf, IsTagged, IsFlagged}
use Rattle.nm_order.specs.Hands.{IsPooled}
use Rattle.nm_order.specs.Told.TellsEdge.{ByLink}
use Rattle.nm_order.proofs.TaughtFacts.{edges_are_learned}
use Rattle.nm_steps.specs.Rules.{knowledge}
use Rattle.nm_steps.specs.Steps.{PassView, MayStep, Stepped, HasSeenAllOf, link_reply}
use Rattle.nm_steps.proofs.Extending.{neither}
use Rattle.nm_steps.proofs.AfterSteps.{TellsRun}
use Rattle.nm_walks.specs.Telling.{Tells, IsInRun, GoesOn, IsPinnedSomewhere}
use Rattle.nm_walks.specs.Making.{draft, IsFork, IsInserting, IsPlace, IsRouter, IsWithin, HasLinked, HasLost}
use Rattle.nm_walks.specs.Places.{IsOver}
use Rattle.nm_walks.proofs.Looks.{enough, known_inside, grown, told_after, goes_on}
use Rattle.nm_walks.proofs.Makes.{private_from_birth, drafts_ascend, without_it, without_another, search_then}
use Rattle.nm_model.proofs.Checks.{not_outside, passes_then}
use Rattle.nm_steps.proofs.Presence.{known_after_step}

-- ---- what the drafts of the new nodes show

number_there : (o : Option ℕ) (n : ℕ) → o ≡ Some n → is_number o n ≡ true
number_there o n is = ap (λ (x : Option ℕ). is_number x n) is ∙ eq-eqb n n refl

-- the draft of an internal node puts a key over the slot and a new leaf
record ForksOver (d : Draft) (leaf fresh : ℕ) : Type 0 where
  beside_leaf : beside d leaf ≡ Some fresh
  over : is_fork_over d leaf ≡ true

or_right : (a b : Bool) → b ≡ true → (a || b) ≡ true
or_right true b is = refl
or_right false b is = is

or_left : (a b : Bool) → a ≡ true → (a || b) ≡ true
or_left a b is = ap (λ (x : Bool). x || b) is

-- the key of the node, by the shape of the tree, is as a link asks
abbrev ForksSo : Bool → Draft → ℕ → ℕ → ℕ → Type 0
ForksSo false d leaf key other = forks_over d leaf key (Some other) ≡ true
ForksSo true d leaf key other = parts d leaf key other d.key ≡ true

module _ (d : Draft) (leaf fresh key other router : ℕ) (has_key : d.key ≡ Some router) where
  -- the key is the lesser one
  lesser : d.left ≡ Some fresh → d.right ≡ Some leaf → ForksOver d leaf fresh
  lesser left right = record {
    beside_leaf = cond_both (is_number d.left leaf) d.right d.left (λ (o : Option ℕ). o ≡ Some fresh)
        (λ same. right ∙ (sym (number_is d.left leaf same) ∙ left)) (λ _. left);
    over = and_from (is_some d.key) (is_number d.left leaf || is_number d.right leaf) (ap is_some has_key)
        (or_right (is_number d.left leaf) (is_number d.right leaf) (number_there d.right leaf right));
  }

  greater : d.left ≡ Some leaf → d.right ≡ Some fresh → ForksOver d leaf fresh
  greater left right = record {
    beside_leaf = cond-true (is_number d.left leaf) d.right d.left (number_there d.left leaf left) ∙ right;
    over = and_from (is_some d.key) (is_number d.left leaf || is_number d.right leaf) (ap is_some has_key)
        (ap (λ (b : Bool). b || is_number d.right leaf) (number_there d.left leaf left));
  }

  lesser_so : (b : Bool) → key < other → d.right ≡ Some leaf → IsRouter b key other router → ForksSo b d leaf key other
  lesser_so false less right is =
      let key_is : d.key ≡ Some other = has_key ∙ ap Some
      (is ∙ cond-true (nat_lt key other) other key (lt-ltb key other less)) in
      and_from (not (other == key)) (cond (nat_lt key other) (is_number d.key other && is_number d.right leaf)
      (is_number d.key key && is_number d.left leaf)) (ap not (ne_eqb other key (λ same. omega (arith, less, same))))
      (cond-true (nat_lt key other) (is_number d.key other && is_number d.right leaf)
      (is_number d.key key && is_number d.left leaf) (lt-ltb key other less)
      ∙ and_from (is_number d.key other) (is_number d.right leaf) (number_there d.key other key_is)
      (number_there d.right leaf right))
  lesser_so true less right is =
      let between = is.low less in
      ap (parts d leaf key other) has_key
      ∙ and_from (covers router key && covers router other)
      (cond (nat_lt key router) (nat_le router other && is_number d.right leaf)
      (nat_lt other router && is_number d.left leaf))
      (and_from (covers router key) (covers router other) is.covers_one is.covers_other)
      (cond-true (nat_lt key router) (nat_le router other && is_number d.right leaf)
      (nat_lt other router && is_number d.left leaf) (lt-ltb key router between.0)
      ∙ and_from (nat_le router other) (is_number d.right leaf) (le-leb router other between.1)
      (number_there d.right leaf right))

  greater_so : (b : Bool) → other < key → d.left ≡ Some leaf → IsRouter b key other router → ForksSo b d leaf key other
  greater_so false more left is =
      let key_is : d.key ≡ Some key = has_key ∙ ap Some
      (is ∙ cond-false (nat_lt key other) other key (le-ltb key other (omega (arith, more)))) in
      and_from (not (other == key)) (cond (nat_lt key other) (is_number d.key other && is_number d.right leaf)
      (is_number d.key key && is_number d.left leaf)) (ap not (ne_eqb other key (λ same. omega (arith, more, same))))
      (cond-false (nat_lt key other) (is_number d.key other && is_number d.right leaf)
      (is_number d.key key && is_number d.left leaf) (le-ltb key other (omega (arith, more)))
      ∙ and_from (is_number d.key key) (is_number d.left leaf) (number_there d.key key key_is)
      (number_there d.left leaf left))
  greater_so true more left is =
      let between = is.high more in
      ap (parts d leaf key other) has_key
      ∙ and_from (covers router key && covers router other)
      (cond (nat_lt key router) (nat_le router other && is_number d.right leaf)
      (nat_lt other router && is_number d.left leaf))
      (and_from (covers router key) (covers router other) is.covers_one is.covers_other)
      (cond-false (nat_lt key router) (nat_le router other && is_number d.right leaf)
      (nat_lt other router && is_number d.left leaf) (le-ltb key router between.1)
      ∙ and_from (nat_lt other router) (is_number d.left leaf) (lt-ltb other router between.0)
      (number_there d.left leaf left))

fork_shown : (p : PassView) (key other leaf new fresh : ℕ) → IsFork p key other leaf new fresh
    → ForksOver (draft p new) leaf fresh
fork_shown p key other leaf new fresh f = elim f.as_fork [
  | inl less ↦ lesser (draft p new) leaf fresh key other f.router less.1.has_key less.1.has_left less.1.has_right
  | inr more ↦ greater (draft p new) leaf fresh key other f.router more.1.has_key more.1.has_left more.1.has_right
]

forks_shown : (p : PassView) (key other leaf new fresh : ℕ) (f : IsFork p key other leaf new fresh) (b : Bool)
    → IsRouter b key other f.router → ForksSo b (draft p new) leaf key other
forks_shown p key other leaf new fresh f b is = elim f.as_fork [
  | inl less ↦ lesser_so (draft p new) leaf fresh key other f.router less.1.has_key b less.0 less.1.has_right is
  | inr more ↦ greater_so (draft p new) leaf fresh key other f.router more.1.has_key b more.0 more.1.has_left is
]

-- its birth is stored
fork_birth : (p : PassView) (key other leaf new fresh : ℕ) (f : IsFork p key other leaf new fresh)
    → (draft p new).birth ≡ Some f.new_birth
fork_birth p key other leaf new fresh f = elim f.as_fork [ inl less ↦ less.1.has_birth | inr more ↦ more.1.has_birth ]

-- ---- the link is allowed

same_side : (side : Side) → is_side side side ≡ true
same_side Left = refl
same_side Right = refl

module _ (p : PassView) (parent : ℕ) (side : Side) (leaf new fresh : ℕ)
    (i : IsInserting p parent side leaf new fresh) where
  abbrev k : Knowledge
  k = knowledge p.view

  abbrev search : Search
  search = search_after idle p.view.log

  shown : ForksOver (draft_of (knowledge p.view) new) leaf fresh
  shown = fork_shown p i.key i.other leaf new fresh i.new_nodes

  pub is_fresh : unwrap_or (beside (draft_of (knowledge p.view) new) leaf) 0 ≡ fresh
  is_fresh = ap (λ (o : Option ℕ). unwrap_or o 0) shown.beside_leaf

  new_private : is_private (knowledge p.view) new ≡ true
  new_private = private_from_birth p new (ap is_some (fork_birth p i.key i.other leaf new fresh i.new_nodes))

  fresh_private : is_private (knowledge p.view) fresh ≡ true
  fresh_private = private_from_birth p fresh (ap is_some i.new_nodes.as_leaf.has_birth)

  fresh_leaf : is_leaf_draft (knowledge p.view) fresh ≡ true
  fresh_leaf =
      and_from (is_private k fresh) _ fresh_private
      (and_from (is_some (draft_of k fresh).key) _ (ap is_some i.new_nodes.as_leaf.has_key)
      (and_from (is_number (draft_of k fresh).left 0) _
      (number_there (draft_of k fresh).left 0 i.new_nodes.as_leaf.has_left)
      (number_there (draft_of k fresh).right 0 i.new_nodes.as_leaf.has_right)))

  linkable : is_linkable (knowledge p.view) new leaf ≡ true
  linkable = and_from (is_fork_over (draft_of k new) leaf) _ shown.over (ap (is_leaf_draft k) is_fresh ∙ fresh_leaf)

  -- an arrival of which something is so
  any_of : (f : Arrival → Bool) (x above : ℕ) (d : Side)
      (a : Arrived (search_after idle p.view.log) ThePin i.key x above d) → f a.arrival ≡ true
      → list_any f (search_after idle p.view.log).walks ≡ true
  any_of f x above d a is = list_any_at f search.walks a.among.0 a.arrival a.among.1 (ap f a.among.2 ∙ is)

  arrives_by : (x above : ℕ) (d : Side) (a : Arrived (search_after idle p.view.log) ThePin i.key x above d)
      → is_by x above d a.arrival ≡ true
  arrives_by x above d a =
      and_from (a.arrival.slot == x) _ (eq-eqb a.arrival.slot x a.is_slot)
      (and_from (a.arrival.parent == above) (is_side a.arrival.side d) (eq-eqb a.arrival.parent above a.is_parent)
      (ap (λ (e : Side). is_side e d) a.is_side ∙ same_side d))

  -- the edge by which the walk came is in the range of its node
  comes_within : IsWithin p i.key parent side → (is_first parent side
      || list_any (narrows i.key parent side) (search_after idle p.view.log).walks) ≡ true
  comes_within (inl first) = or_left (is_first parent side) _
      (and_from (parent == 2) (is_side side Left) (eq-eqb parent 2 first.0) (ap (λ (d : Side). is_side d Left) first.1))
  comes_within (inr w) =
      or_right (is_first parent side) _ (any_of (narrows i.key parent side) parent w.1 w.2 w.5.0
      (and_from (goes_by i.key parent side w.5.0.arrival) (is_covered i.key w.5.0.arrival.key)
      (and_from (w.5.0.arrival.slot == parent) (turns i.key w.5.0.arrival.key side)
      (eq-eqb w.5.0.arrival.slot parent w.5.0.is_slot)
      (ap (λ (o : Option ℕ). turns i.key o side) w.5.1 ∙ (ap (λ (d : Side). is_side d side) w.4 ∙ same_side side)))
      (ap (is_covered i.key) w.5.1 ∙ w.3)))

  leafy_or_out : IsOver p i.key leaf i.other → (knows_leaf (knowledge p.view) leaf || not (covers i.other i.key)) ≡ true
  leafy_or_out (inl known) = or_left (knows_leaf k leaf) _ known
  leafy_or_out (inr out) = or_right (knows_leaf k leaf) _ (ap not out.1)

  -- the walk's arrival is one by which the call may link
  walked_so : (b : Bool) → IsPlace b p i.key leaf parent side i.other
      → ForksSo b (draft_of (knowledge p.view) new) leaf i.key i.other
      → cond b ((is_first parent side || list_any (narrows i.key parent side) (search_after idle p.view.log).walks)
      && list_any (may_link_between (draft_of (knowledge p.view) new) (knows_leaf (knowledge p.view) leaf) i.key
      parent side leaf) (search_after idle p.view.log).walks)
      (list_any (may_link_at (draft_of (knowledge p.view) new) i.key parent side leaf)
      (search_after idle p.view.log).walks) ≡ true
  walked_so false h forks =
      any_of (may_link_at (draft_of k new) i.key parent side leaf) leaf parent side h.1.0
      (and_from (is_by leaf parent side h.1.0.arrival) _ (arrives_by leaf parent side h.1.0)
      (and_from h.1.0.arrival.ended _ h.1.2 (ap (forks_over (draft_of k new) leaf i.key) h.1.1 ∙ forks)))
  walked_so true h forks =
      and_from (is_first parent side || list_any (narrows i.key parent side) search.walks) _ (comes_within h.2)
      (any_of (may_link_between (draft_of k new) (knows_leaf k leaf) i.key parent side leaf) leaf parent side h.1.0
      (and_from (is_by leaf parent side h.1.0.arrival) _ (arrives_by leaf parent side h.1.0)
      (ap (parts_from (draft_of k new) leaf i.key (knows_leaf k leaf)) h.1.1
      ∙ and_from (not (i.other == i.key) && (knows_leaf k leaf || not (covers i.other i.key))) _
      (and_from (not (i.other == i.key)) _ (ap not (ne_eqb i.other i.key i.apart)) (leafy_or_out h.0)) forks)))

  walked : shows_place p.view.layout (knowledge p.view) i.key parent side leaf new
      (search_after idle p.view.log).walks ≡ true
  walked = walked_so p.view.layout.radix i.place (forks_shown p i.key i.other leaf new fresh i.new_nodes
      p.view.layout.radix i.new_nodes.between)

  -- over such a slot a link may be
  may_over : (b : Bool) → IsPlace b p i.key leaf parent side i.other
      → (knows_leaf (knowledge p.view) leaf || (b && nat_le 6 leaf)) ≡ true
  may_over false h = or_left (knows_leaf k leaf) _ h.0
  may_over true h = elim h.0 [
    | inl known ↦ or_left (knows_leaf k leaf) _ known
    | inr out ↦ or_right (knows_leaf k leaf) _ (le-leb 6 leaf out.0)
  ]

  in_order : disorder p.view.layout (knowledge p.view) (search_after idle p.view.log) (Link parent side leaf new) ≡ None
  in_order = cond-false (not (links_in_order p.view.layout k search search.call parent side leaf new))
      (Some NotOrdered) None (ap not
      (ap (λ (c : Option Call). links_in_order p.view.layout k search c parent side leaf new) i.call
      ∙ and_from (not (has_put_in search)) _ (ap not (neither search.linked search.swapped i.not_linked i.not_swapped))
      (and_from (is_number (new_leaf k leaf new).key i.key) _
      (ap (λ (x : ℕ). is_number (draft_of k x).key i.key) is_fresh
      ∙ number_there (draft_of k fresh).key i.key i.new_nodes.as_leaf.has_key) walked)))

  pub may_link : IsInRun p → IsPinnedSomewhere p → Tells p (KnowsSlot parent) → Tells p (KnowsSlot leaf)
      → ((x : ℕ) → is_private (knowledge p.view) x ≡ true → IsPooled p.view.layout x)
      → MayStep p (Link parent side leaf new)
  unfolding refusal
  may_link run pin known held pooled =
      let range = known_inside p.view.layout p.view.number p.view.log run.fits run.run.is_part in
      let above = range parent known in
      let below = range leaf held in
      let own = pooled new new_private in
      let L : Layout = p.view.layout in
      record {
        looked = tt;
        allowed = λ m h. passes_then (outside 1 L.nodes parent || (outside 1 L.nodes leaf || outside 6 L.nodes new))
            NoSlot _
            (ap (λ (b : Bool). b || (outside 1 L.nodes leaf || outside 6 L.nodes new))
            (not_outside 1 L.nodes parent above.0 above.1)
            ∙ (ap (λ (b : Bool). b || outside 6 L.nodes new) (not_outside 1 L.nodes leaf below.0 below.1)
            ∙ not_outside 6 L.nodes new own.0 own.1))
            (passes_then (is_none k.brief.pin) NotPinned _ (ap is_none pin.1)
            (passes_then (not (knows k parent && (knows k leaf && may_be_over L k leaf))) NotHeld _
            (ap not (and_from (knows k parent) _ known (and_from (knows k leaf) _ held (may_over L.radix i.place))))
            (passes_then (not (is_private k new)) NotPrivate _ (ap not new_private)
            (passes_then (not (is_linkable k new leaf)) NotReady _ (ap not linkable) refl))));
        ordered = in_order;
        births = tt;
        key = tt;
      }

-- ---- what a link leaves

module _ (p q : PassView) (parent : ℕ) (side : Side) (leaf new fresh : ℕ) where
  stands_anew : (r : Result Unit Edge) → begins_anew (Link parent side leaf new, link_reply p.view new r) ≡ false
  stands_anew (Ok u) = refl
  stands_anew (Err e) = refl

  pub link_goes_on : (r : Result Unit Edge) → Stepped p q (Link parent side leaf new) (link_reply p.view new r)
      → HasSeenAllOf q p → q.view.stores ≡ p.view.stores → IsLayout q.view.layout → TellsRun q → GoesOn p q
  link_goes_on r step past stored fits tells = goes_on p q (Link parent side leaf new) (link_reply p.view new r) step
      past stored refl (stands_anew r) fits tells

  pub link_won : IsInRun p → IsInserting p parent side leaf new fresh
      → Stepped p q (Link parent side leaf new) (Linked (node_linked (knowledge p.view) new))
      → HasLinked p q parent side leaf new fresh
  unfolding searched
  link_won run i step =
      let k : Knowledge = knowledge p.view in
      let n : NodeId = node_linked k new in
      let at : knowledge q.view ≡ linked_in k leaf new = known_after_step p q (Link parent side leaf new) (Linked n)
      step ∙ learn_linked p.view.number k parent side leaf new n in
      let drafts_now : (knowledge q.view).drafts ≡ without (without k.drafts new) fresh = ap
      (λ (x : Knowledge). x.drafts) at ∙ ap (without (without k.drafts new))
      (is_fresh p parent side leaf new fresh i) in
      let order : Ascends k.drafts = drafts_ascend p.view.layout (enough p.view.layout run.fits) p.view.number
      p.view.log run.run.is_part in
      let later : Ascends (without k.drafts new) = ascends-without k.drafts new order in
      record {
        step = λ birth is. subst (λ (b : ℕ). Stepped p q (Link parent side leaf new)
            (Linked (record { slot = new; birth = b }))) (ap (λ (o : Option ℕ). unwrap_or o 0) is) step;
        new_given = ap (λ m. is_some (get m new)) drafts_now
            ∙ ap is_some (without_another (without k.drafts new) fresh new later i.new_nodes.apart
            ∙ without_it k.drafts new order);
        fresh_given = ap (λ m. is_some (get m fresh)) drafts_now
            ∙ ap is_some (without_it (without k.drafts new) fresh later);
        others = λ s ne_new ne_fresh. ap (λ m. get m s) drafts_now
            ∙ (without_another (without k.drafts new) fresh s later ne_fresh
            ∙ without_another k.drafts new s order ne_new);
        epochs = ap (λ (x : Knowledge). x.brief) at;
        ledgers = ap (λ (x : Knowledge). x.ledgers) at;
        search = search_then p q (Link parent side leaf new) (Linked n) step;
      }

  pub link_lost : (e : Edge) → Stepped p q (Link parent side leaf new) (Lost e) → Tells p (KnowsSlot parent)
      → IsLayout q.view.layout → TellsRun q → HasLost p q parent side leaf new e
  unfolding searched
  link_lost e step known fits tells =
      let k : Knowledge = knowledge p.view in
      let L : Layout = p.view.layout in
      let entry : Entry = (Link parent side leaf new, Lost e) in
      let at : knowledge q.view ≡ read_edge k parent side e = known_after_step p q (Link parent side leaf new)
      (Lost e) step ∙ learn_link_lost p.view.number k parent side leaf new e in
      let search_now : search_after idle q.view.log ≡ search_after idle p.view.log = search_then p q
      (Link parent side leaf new) (Lost e) step in
      let low = enough L (subst (λ (s : PassView). IsLayout s.view.layout) step fits) in
      let learned = edges_are_learned L low p.view.number p.view.log entry
      (grown p q (Link parent side leaf new) (Lost e) step refl fits tells) parent side e
      (ByLink parent leaf new side e) known in
      let after = told_after p q (Link parent side leaf new) (Lost e) step in
      record {
        step = step;
        learned = record {
          leads = λ some. after (KnowsSlot e.slot) (learned.leads some);
          leaf = λ null. after (KnowsLeaf parent) (learned.leaf null);
          tagged = λ tag. after (IsTagged parent side e.slot) (learned.tagged tag);
          flagged = λ flag. after (IsFlagged parent side e.slot) (learned.flagged flag);
        };
        only = record {
          epochs = ap (λ (x : Knowledge). x.brief) at;
          private = ap (λ (x : Knowledge). x.drafts) at;
          ledgers = ap (λ (x : Knowledge). x.ledgers) at;
          call = ap (λ (x : Search). x.call) search_now;
          linked = ap (λ (x : Search). x.linked) search_now;
          swapped = ap (λ (x : Search). x.swapped) search_now;
          flagged = ap (λ (x : Search). x.flagged) search_now;
          cut = ap (λ (x : Search). x.cut) search_now;
        };
      }

  -- by what the step answers
  pub if_won : (r : Result Unit Edge) → IsInRun p → IsInserting p parent side leaf new fresh
      → Stepped p q (Link parent side leaf new) (link_reply p.view new r)
      → IfOk r (λ _. HasLinked p q parent side leaf new fresh)
  if_won (Ok u) run i step = link_won run i step
  if_won (Err e) run i step = tt

  pub if_lost : (r : Result Unit Edge) → Stepped p q (Link parent side leaf new) (link_reply p.view new r)
      → Tells p (KnowsSlot parent) → IsLayout q.view.layout → TellsRun q → IfErr r (HasLost p q parent side leaf new)
  if_lost (Ok u) step known fits tells = tt
  if_lost (Err e) step known fits tells = link_lost e step known fits tells
