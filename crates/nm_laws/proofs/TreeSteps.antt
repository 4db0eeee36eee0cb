-- The laws of the tree are kept by every event that is allowed.
use Rattle.std.proofs.Common.{◌≡◌, ℕ, ◌+◌, ◌≢◌, ◌<◌, ◌≤◌, eqb, Bool, true, false, cond, not, ◌||◌, ◌&&◌, ◌∷◌, length, refl, sym, ap, ◌∙◌, arith, true≢false, subst}
use Rattle.std.specs.Prelude.{Option, Some, None, is_some, is_none, unwrap_or, nat_lt, slice_get}
use native.Mathlib.Decide.{ℕ_discrete}
use Rattle.std.proofs.lemmas.Bool.{cond_both, cond-true, cond-false, eq-eqb, ne_eqb, or_parts, not-false, ltb-false, lt-ltb, and_parts}
use Rattle.nm_edge.specs.Edges.{other}
use Rattle.nm_edge.specs.Layouts.{Layout}
use Rattle.nm_edge.specs.declared.edge.Side.{Side}
use Rattle.nm_model.specs.declared.event.Field.{Field}
use Rattle.nm_model.specs.declared.event.Field.TheVariants.{Edge as EdgeOn}
use Rattle.nm_model.specs.declared.event.Event.{Event}
use Rattle.nm_model.specs.declared.event.Event.TheVariants.{Sight, SightFor, Announce, Leave, LeaveWith, Scan, Advance, Claim, Give, Look, Fill, Link, Flag, Tag, Splice, Swap, Join}
use Rattle.nm_model.specs.declared.reply.Reply.TheVariants.{Returned, Freed}
use Rattle.nm_model.specs.declared.reply.Refused.TheVariants.{NoSlot, NotPinned, NotHeld, NotPrivate, NotReady, NotFrozen}
use Rattle.nm_model.specs.declared.ledger.Queued.{Queued}
use Rattle.nm_model.specs.declared.ledger.Ledger.{Ledger}
use Rattle.nm_model.specs.Maps.{or_else, is_number}
use Rattle.nm_model.specs.Memory.{announcement, child}
use Rattle.nm_model.specs.Ledgers.{held, queue_of, front_of, taken_over}
use Rattle.nm_model.specs.Knowledge.{Knowledge, knows, is_private, draft_of, read, is_flagged, knows_leaf}
use Rattle.nm_model.specs.Learning.{learn}
use Rattle.nm_model.specs.Step.{outside, is_edge, is_frozen, is_linkable, is_leaf_draft, node_of, reply_sight, refusal, reply, write, may_be_over}
use Rattle.nm_model.specs.Runs.{State, of, refusal_of, reply_of}
use Rattle.nm_laws.proofs.Steps.{Allowed, passed, second, third, fourth, fifth}
use Rattle.nm_laws.proofs.Sizes.{Staffed, Roomy}
use Rattle.nm_laws.proofs.Epochs.{EpochLaw}
use Rattle.nm_model.proofs.Tables.{Ascends}
use Rattle.nm_laws.proofs.Held.{Front, front, front_slot, held-taken_over}
use Rattle.nm_laws.proofs.Learned.{learn_sight_for, learn_leave_with, learn_returned, learn_freed}
use Rattle.nm_laws.proofs.Changes.{Ripe, OnlyPinned, freeable}
use Rattle.nm_laws.proofs.Holders.{Holders, heirs, Joins, by_worker}
use Rattle.nm_laws.proofs.Pictures.{InReach, TreeLaw}
use Rattle.nm_laws.proofs.Views.{view, picture, SamePicture, with_worker, held_queue, queued_at, label_below, is_late, drafted_on}
use Rattle.nm_laws.proofs.TreeEpochs.{sight_view, announce_view, scan_view, advance_view, leave_view}
use Rattle.nm_laws.proofs.TreeSlots.{put_pool, claim_view, return_view, free_view, look_view, fill_view, flag_view, tag_view, known_live, flag_known}
use Rattle.nm_laws.proofs.TreeSplice.{Owns, splice_view}
use Rattle.nm_laws.proofs.TreeLink.{link_view}
use Rattle.nm_laws.proofs.TreeSwap.{swap_view}

pub high_from : (low high s : ℕ) → outside low high s ≡ false → (low ≤ s) × (s ≤ high)
high_from low high s h = let parts = or_parts (nat_lt s low) (nat_lt high s) h in
    (ltb-false s low parts.0, ltb-false high s parts.1)

-- the laws of one state: its sizes, epochs, places and holders, where h says who holds the ledger
-- of each origin
pub record Lawful (s : State) (h : ℕ → ℕ) : Type 0 where
  pub staffed : Staffed s
  pub roomy : Roomy s
  pub epochs : EpochLaw s
  pub holders : Holders s h
  pub drafts : (w : ℕ) → Ascends (of s w).drafts
  pub known : (w : ℕ) → OnlyPinned (of s w)
  pub tree : TreeLaw s.layout.nodes (picture s h)

-- a slot that is not out of range is one of the memory's
pub slot_inside : (s : State) (h : ℕ → ℕ) → Lawful s h → (x least : ℕ) → outside least s.layout.nodes x ≡ false
    → x < length s.memory.nodes
slot_inside s h law x least inside = let range = high_from least s.layout.nodes x inside in
    let size = law.roomy.nodes in omega arith

-- what a link that is allowed has shown by its worker's knowledge
pub record LinkChecked (L : Layout) (k : Knowledge) (p leaf new : ℕ) : Type 0 where
  pub known : knows k p ≡ true
  pub held : knows k leaf ≡ true
  pub leafy : may_be_over L k leaf ≡ true
  pub own : is_private k new ≡ true
  pub ready : is_linkable k new leaf ≡ true

pub link_checked : (s : State) (w p : ℕ) (d : Side) (leaf new : ℕ) → refusal_of s w (Link p d leaf new) ≡ None
    → LinkChecked s.layout (of s w) p leaf new
unfolding refusal
link_checked s w p d leaf new ok = record {
  known = three.0;
  held = leaf_known.0;
  leafy = leaf_known.1;
  own = not-false (is_private (of s w) new) (fourth first (is_none (of s w).brief.pin)
      (not (knows (of s w) p && (knows (of s w) leaf && may_be_over s.layout (of s w) leaf)))
      (not (is_private (of s w) new)) NoSlot NotPinned NotHeld NotPrivate _ ok);
  ready = not-false (is_linkable (of s w) new leaf)
      (fifth first (is_none (of s w).brief.pin) (not (knows (of s w) p
      && (knows (of s w) leaf && may_be_over s.layout (of s w) leaf))) (not (is_private (of s w) new))
      (not (is_linkable (of s w) new leaf)) NoSlot NotPinned NotHeld NotPrivate NotReady _ ok);
}
  where
    first : Bool
    first = outside 1 s.layout.nodes p || (outside 1 s.layout.nodes leaf || outside 6 s.layout.nodes new)

    three : (knows (of s w) p ≡ true) × ((knows (of s w) leaf && may_be_over s.layout (of s w) leaf) ≡ true)
    three = and_parts (knows (of s w) p) (knows (of s w) leaf && may_be_over s.layout (of s w) leaf)
        (not-false _ (third first (is_none (of s w).brief.pin)
        (not (knows (of s w) p && (knows (of s w) leaf && may_be_over s.layout (of s w) leaf))) NoSlot NotPinned
        NotHeld _ ok))

    leaf_known : (knows (of s w) leaf ≡ true) × (may_be_over s.layout (of s w) leaf ≡ true)
    leaf_known = and_parts (knows (of s w) leaf) (may_be_over s.layout (of s w) leaf) three.1

-- the same of a swap, whose leaf is no sentinel
pub record SwapChecked (k : Knowledge) (p leaf new : ℕ) : Type 0 where
  pub high : 6 ≤ leaf
  pub known : knows k p ≡ true
  pub held : knows k leaf ≡ true
  pub leafy : knows_leaf k leaf ≡ true
  pub own : is_private k new ≡ true
  pub ready : is_leaf_draft k new ≡ true

pub swap_checked : (s : State) (w p : ℕ) (d : Side) (leaf new : ℕ) → refusal_of s w (Swap p d leaf new) ≡ None
    → SwapChecked (of s w) p leaf new
unfolding refusal
swap_checked s w p d leaf new ok = record {
  high = (high_from 6 s.layout.nodes leaf
      (or_parts (outside 6 s.layout.nodes leaf) (outside 6 s.layout.nodes new)
      (or_parts (outside 1 s.layout.nodes p) (outside 6 s.layout.nodes leaf || outside 6 s.layout.nodes new)
      (passed _ _ _ ok).0).1).0).0;
  known = three.0;
  held = two.0;
  leafy = two.1;
  own = not-false (is_private (of s w) new)
      (fourth first (is_none (of s w).brief.pin)
      (not (knows (of s w) p && (knows (of s w) leaf && knows_leaf (of s w) leaf)))
      (not (is_private (of s w) new)) NoSlot NotPinned NotHeld NotPrivate _ ok);
  ready = not-false (is_leaf_draft (of s w) new)
      (fifth first (is_none (of s w).brief.pin)
      (not (knows (of s w) p && (knows (of s w) leaf && knows_leaf (of s w) leaf))) (not (is_private (of s w) new))
      (not (is_leaf_draft (of s w) new)) NoSlot NotPinned NotHeld NotPrivate NotReady _ ok);
}
  where
    first : Bool
    first = outside 1 s.layout.nodes p || (outside 6 s.layout.nodes leaf || outside 6 s.layout.nodes new)

    three : (knows (of s w) p ≡ true) × ((knows (of s w) leaf && knows_leaf (of s w) leaf) ≡ true)
    three = and_parts (knows (of s w) p) (knows (of s w) leaf && knows_leaf (of s w) leaf)
        (not-false _ (third first (is_none (of s w).brief.pin)
        (not (knows (of s w) p && (knows (of s w) leaf && knows_leaf (of s w) leaf))) NoSlot NotPinned NotHeld _ ok))

    two : (knows (of s w) leaf ≡ true) × (knows_leaf (of s w) leaf ≡ true)
    two = and_parts (knows (of s w) leaf) (knows_leaf (of s w) leaf) three.1

-- the same of a flag, whose leaf is no sentinel
pub record FlagChecked (k : Knowledge) (p leaf : ℕ) : Type 0 where
  pub high : 6 ≤ leaf
  pub known : knows k p ≡ true
  pub held : knows k leaf ≡ true
  pub leafy : knows_leaf k leaf ≡ true

pub flag_checked : (s : State) (w p : ℕ) (d : Side) (leaf : ℕ) → refusal_of s w (Flag p d leaf) ≡ None
    → FlagChecked (of s w) p leaf
unfolding refusal
flag_checked s w p d leaf ok =
    let first = outside 1 s.layout.nodes p || outside 6 s.layout.nodes leaf in
    let three = and_parts (knows (of s w) p) (knows (of s w) leaf && knows_leaf (of s w) leaf)
    (not-false _ (third first (is_none (of s w).brief.pin)
    (not (knows (of s w) p && (knows (of s w) leaf && knows_leaf (of s w) leaf))) NoSlot NotPinned NotHeld _
    ok)) in
    let two = and_parts (knows (of s w) leaf) (knows_leaf (of s w) leaf) three.1 in
    record {
      high = (high_from 6 s.layout.nodes leaf
          (or_parts (outside 1 s.layout.nodes p) (outside 6 s.layout.nodes leaf) (passed _ _ _ ok).0).1).0;
      known =
          three.0;
      held = two.0;
      leafy = two.1;
    }

-- of a tag: the node is known, and its other edge flagged
pub tag_checked : (s : State) (w p : ℕ) (d : Side) → refusal_of s w (Tag p d) ≡ None
    → (knows (of s w) p ≡ true) × (is_flagged (read (of s w) p (other d)) ≡ true)
unfolding refusal
tag_checked s w p d ok = (
  not-false (knows (of s w) p) (third (outside 1 s.layout.nodes p) (is_none (of s w).brief.pin)
      (not (knows (of s w) p)) NoSlot NotPinned NotHeld _ ok),
  not-false (is_flagged (read (of s w) p (other d)))
      (fourth (outside 1 s.layout.nodes p) (is_none (of s w).brief.pin) (not (knows (of s w) p))
      (not (is_flagged (read (of s w) p (other d)))) NoSlot NotPinned NotHeld NotFrozen _ ok),
)

-- of a fill: its slot is the worker's own
pub fill_checked : (s : State) (w : ℕ) (e : Event) → refusal_of s w e ≡ None → (x : ℕ) (f : Field) (v : ℕ)
    → e ≡ Fill x f v → is_private (of s w) x ≡ true
unfolding refusal
fill_checked s w e ok x f v is = not-false (is_private (of s w) x)
    (second (outside 6 s.layout.nodes x || (is_edge f && nat_lt s.layout.nodes v)) (not (is_private (of s w) x))
    NoSlot NotPrivate _ (subst (λ (y : Event). refusal_of s w y ≡ None) is ok))

-- of a look: a slot that is not the worker's own is known
pub look_checked : (s : State) (w x : ℕ) (f : Field) → refusal_of s w (Look x f) ≡ None
    → is_private (of s w) x ≡ false → knows (of s w) x ≡ true
unfolding refusal
look_checked s w x f ok out = not-false (knows (of s w) x)
    (sym (ap (λ (b : Bool). not b && not (knows (of s w) x)) out)
    ∙ third (outside 1 s.layout.nodes x) (not (is_private (of s w) x) && is_none (of s w).brief.pin)
    (not (is_private (of s w) x) && not (knows (of s w) x)) NoSlot NotPinned NotHeld _ ok)

-- and of a splice, whose successor and last parent are no sentinels
pub record SpliceChecked (L : Layout) (k : Knowledge) (a x p : ℕ) (keep : Side) : Type 0 where
  pub high : (6 ≤ x) × (6 ≤ p)
  pub known : knows k a ≡ true
  pub held : knows k x ≡ true
  pub frozen : is_frozen L k x p keep ≡ true

pub splice_checked : (s : State) (w a : ℕ) (d : Side) (x p : ℕ) (keep : Side)
    → refusal_of s w (Splice a d x p keep) ≡ None → SpliceChecked s.layout (of s w) a x p keep
unfolding refusal
splice_checked s w a d x p keep ok =
    let first = outside 1 s.layout.nodes a || (outside 6 s.layout.nodes x || outside 6 s.layout.nodes p) in
    let slots = or_parts (outside 6 s.layout.nodes x) (outside 6 s.layout.nodes p)
    (or_parts (outside 1 s.layout.nodes a) (outside 6 s.layout.nodes x || outside 6 s.layout.nodes p)
    (passed _ _ _ ok).0).1 in
    let seen = and_parts (knows (of s w) a) (knows (of s w) x)
    (not-false _ (third first (is_none (of s w).brief.pin) (not (knows (of s w) a && knows (of s w) x)) NoSlot
    NotPinned NotHeld _ ok)) in
    let frozen = not-false (is_frozen s.layout (of s w) x p keep)
    (fourth first (is_none (of s w).brief.pin) (not (knows (of s w) a && knows (of s w) x))
    (not (is_frozen s.layout (of s w) x p keep)) NoSlot NotPinned NotHeld NotFrozen _ ok) in
    record {
      high = ((high_from 6 s.layout.nodes x slots.0).0, (high_from 6 s.layout.nodes p slots.1).0);
      known =
          seen.0;
      held = seen.1;
      frozen = frozen;
    }

some_of : {X : Type 0} (o : Option X) → is_some o ≡ true → (x : X) × (o ≡ Some x)
some_of None i = absurd (true≢false (sym i))
some_of (Some x) i = (x, refl)

module _ (s : State) (h : ℕ → ℕ) (law : Lawful s h) (w : ℕ) where
  -- no worker can come to a slot that may be freed
  unseen : (x : ℕ) (e : Queued) → (f : Front (of s w).ledgers x e e.node) → Ripe (of s w).brief.seen e → (u : ℕ)
      → InReach (picture s h) u x → ⊥
  unseen x e f ripe u r =
      let pin = law.known u r.from r.known in
      let near = law.epochs.pins u pin.0 pin.1 in
      let up = law.epochs.sights w ripe.epoch ripe.is_seen in
      let old = ripe.old in
      let late' : is_late (of s u).brief.pin (slice_get (held_queue (of s (h f.origin)) f.origin) 0) ≡ true =
      ap (λ p. is_late p (slice_get (held_queue (of s (h f.origin)) f.origin) 0)) pin.1
      ∙ (ap (λ q. is_late (Some pin.0) (slice_get q 0)) queue_is
      ∙ (ap (label_below pin.0) ripe.is_labelled ∙ lt-ltb ripe.label pin.0 (omega arith))) in
      true≢false (sym late' ∙ law.tree.unlate u x f.origin 0 r (ap (λ q. queued_at q 0) queue_is ∙ ap Some f.slot))
    where
      queue_is : held_queue (of s (h f.origin)) f.origin ≡ e ∷ f.rest
      queue_is = ap (λ (y : ℕ). held_queue (of s y) f.origin)
          (sym (law.holders.only w f.origin (ap is_some f.is_held))) ∙ (ap queue_of f.is_held ∙ f.queue)

  -- a worker that has not resigned holds its own ledger
  pub owned : w < s.layout.workers → (of s w).gone ≡ false → Owns (of s) h w
  owned worker staying =
      let here = law.holders.own w worker staying in
      let l = some_of (held (of s w).ledgers w) (ap (λ (y : ℕ). is_some (held (of s y).ledgers w)) (sym here)
      ∙ law.holders.some w worker) in
      record { holder = here; ledger = l.0; is_held = l.1; inside = let e = law.holders.sizes w in omega arith }

  -- an edge that may be tagged is not null: its twin is flagged, and a shared node has two children
  -- or none
  pub tag_not_null : (p : ℕ) (d : Side) → refusal_of s w (Tag p d) ≡ None → child s.memory p d ≢ 0
  tag_not_null p d ok null =
      let c = tag_checked s w p d ok in
      let live = known_live s.layout.nodes s.memory (of s) h w p law.tree c.0 in
      let high = law.tree.flags p (other d) live (flag_known s.layout.nodes s.memory (of s) h w p (other d) law.tree
      c.1).0 in
      let none : child s.memory p (other d) ≡ 0 = law.tree.twins p d live null in omega (arith, high, none)

  pub tree_step : (e : Event) → Allowed s w e → ((v : ℕ) → e ≡ Join v → ⊥)
      → TreeLaw s.layout.nodes (view (write s.memory (of s w) w e)
      (with_worker (of s) w (learn w (of s w) e (reply_of s w e))) h)
  unfolding refusal reply write
  tree_step e ok' alone = go e ok'.event alone
    where
      in_pool_list : (x : ℕ) → x ≤ s.layout.nodes → x < length s.memory.pool
      in_pool_list x i = let size = law.roomy.pool in omega arith

      go : (e : Event) → refusal_of s w e ≡ None → ((v : ℕ) → e ≡ Join v → ⊥)
          → TreeLaw s.layout.nodes (view (write s.memory (of s w) w e)
          (with_worker (of s) w (learn w (of s w) e (reply_of s w e))) h)
      go Sight ok alone = sight_view s.layout.nodes s.memory (of s) h w law.tree (λ u p i. (law.epochs.pins u p i).0)
      go (SightFor op key) ok alone = rw (learn_sight_for w (of s w) op key (reply_sight (of s w) s.memory.epoch))
          (sight_view s.layout.nodes s.memory (of s) h w law.tree (λ u p i. (law.epochs.pins u p i).0))
      go Announce ok alone = announce_view s.layout.nodes (write s.memory (of s w) w Announce) (of s) h w law.tree
          (unwrap_or (of s w).brief.seen 0)
      go Leave ok alone = leave_view s.layout.nodes (write s.memory (of s w) w Leave) (of s) h w law.tree
      go (LeaveWith answer) ok alone = rw (learn_leave_with w (of s w) answer)
          (leave_view s.layout.nodes (write s.memory (of s w) w Leave) (of s) h w law.tree)
      go (Scan u) ok alone = scan_view s.layout.nodes s.memory (of s) h w law.tree u (announcement s.memory u)
      go Advance ok alone = cond_both (is_number (of s w).brief.seen s.memory.epoch)
          (record s.memory { epoch = s.memory.epoch + 1 }) s.memory
          (λ m. TreeLaw s.layout.nodes (view m (with_worker (of s) w
          (learn w (of s w) Advance (reply_of s w Advance))) h))
          (λ _. advance_view s.layout.nodes (record s.memory { epoch = s.memory.epoch + 1 }) (of s) h w law.tree
          (is_number (of s w).brief.seen s.memory.epoch) (s.memory.epoch + 1) s.memory.epoch)
          (λ _. advance_view s.layout.nodes s.memory (of s) h w law.tree
          (is_number (of s w).brief.seen s.memory.epoch) (s.memory.epoch + 1) s.memory.epoch)
      go (Claim x) ok alone =
          let range = high_from 6 s.layout.nodes x (passed _ _ _ ok).0 in
          claim_view s.layout.nodes s.memory (of s) h w x (in_pool_list x range.1) law.tree
      go (Give x) ok alone = by (is_private (of s w) x) refl
        where
          range : (6 ≤ x) × (x ≤ s.layout.nodes)
          range = high_from 6 s.layout.nodes x (passed _ _ _ ok).0

          by : (b : Bool) → is_private (of s w) x ≡ b → TreeLaw s.layout.nodes
              (view (put_pool s.memory x true) (with_worker (of s) w
              (learn w (of s w) (Give x) (cond (is_private (of s w) x) (Returned x)
              (Freed (node_of (front_of (of s w).ledgers x)))))) h)
          by true own = rw own (rw (learn_returned w (of s w) x x)
              (return_view s.layout.nodes s.memory (of s) h w x (in_pool_list x range.1) own (law.drafts w) law.tree))
          by false out =
              let k = freeable s w x ok out in
              let f : Front (of s w).ledgers x k.0 k.0.node = front (of s w).ledgers x k.0 k.0.node
              (front_slot (of s w).ledgers x k.0 k.1) k.1 in
              rw out (rw k.1 (rw (learn_freed w (of s w) x k.0.node)
              (free_view s.layout.nodes s.memory (of s) h w x k.0 k.0.node (in_pool_list x range.1) f
              (sym (law.holders.only w f.origin (ap is_some f.is_held))) (unseen x k.0 f k.2) law.tree)))
      go (Look x f) ok alone = look_view s.layout.nodes s.memory (of s) h w x f (look_checked s w x f ok) law.tree
      go (Fill x f v) ok alone = fill_view s.layout.nodes s.memory (of s) h w x f v (slot_inside s h law x 6 parts.0)
          (fill_checked s w (Fill x f v) ok x f v refl) small law.tree
        where
          parts : (outside 6 s.layout.nodes x ≡ false) × ((is_edge f && nat_lt s.layout.nodes v) ≡ false)
          parts = or_parts (outside 6 s.layout.nodes x) (is_edge f && nat_lt s.layout.nodes v) (passed _ _ _ ok).0

          small : (d : Side) → f ≡ EdgeOn d → v ≤ s.layout.nodes
          small d is = ltb-false s.layout.nodes v (ap (λ (g : Field). is_edge g && nat_lt s.layout.nodes v) (sym is)
              ∙ parts.1)
      go (Link p d leaf new) ok alone =
          let c = link_checked s w p d leaf new ok in
          link_view s.layout s.layout.nodes s.memory (of s) h w p d leaf new _ law.roomy.nodes c.known c.held c.leafy
          c.own c.ready (law.drafts w) law.tree
      go (Flag p d leaf) ok alone = let c = flag_checked s w p d leaf ok in
          flag_view s.layout.nodes s.memory (of s) h w p d leaf law.roomy.nodes c.high c.known c.held c.leafy law.tree
      go (Tag p d) ok alone = let c = tag_checked s w p d ok in
          tag_view s.layout.nodes s.memory (of s) h w p d law.roomy.nodes c.0 c.1 law.tree
      go (Splice a d x p keep) ok alone = let c = splice_checked s w a d x p keep ok in
          splice_view s.layout s.memory (of s) h w a d x p keep law.roomy.nodes (owned ok'.worker ok'.stays) c.high.0
          c.high.1 c.known c.held c.frozen law.tree
      go (Swap p d leaf new) ok alone = let c = swap_checked s w p d leaf new ok in
          swap_view s.layout.nodes s.memory (of s) h w p d leaf new law.roomy.nodes
          (owned ok'.worker ok'.stays) c.high c.known c.held c.leafy c.own c.ready (law.drafts w) law.tree
      go (Join v) ok alone = absurd (alone v refl)

-- ---- a join

-- a join changes no place
pub tree_joined : (s : State) (h : ℕ → ℕ) (w v : ℕ) (t : State) → t.memory ≡ s.memory → Joins s t w v → v ≢ w
    → Holders s h → SamePicture (picture s h) (picture t (heirs h w v))
tree_joined s h w v t memory j ne holders = record {
  edges = λ x d. ap (λ m. (view m (of s) h).edges x d) (sym memory);
  pool = λ x. ap (λ m. (view m (of s) h).pool x) (sym memory);
  private = λ u x. by_worker s t w v j (λ u k. is_private (of s u) x ≡ is_private k x) refl refl (λ u _ _. refl) u;
  queue = λ o i. ap (λ q. queued_at q i) (queue_same o);
  knows = λ u x. by_worker s t w v j (λ u k. knows (of s u) x ≡ knows k x) refl refl (λ u _ _. refl) u;
  read = λ u x d. by_worker s t w v j (λ u k. read (of s u) x d ≡ read k x d) refl refl (λ u _ _. refl) u;
  drafted = λ u x d. by_worker s t w v j (λ u k. drafted_on (draft_of (of s u) x) d ≡ drafted_on (draft_of k x) d)
      refl refl (λ u _ _. refl) u;
  late = λ u o i. ap (λ q. is_late (of s u).brief.pin (slice_get q i)) (queue_same o)
      ∙ by_worker s t w v j (λ u k. is_late (of s u).brief.pin (slice_get (held_queue (of t (heirs h w v o)) o) i)
      ≡ is_late k.brief.pin (slice_get (held_queue (of t (heirs h w v o)) o) i)) refl refl (λ u _ _. refl) u;
}
  where
    taken : (o : ℕ) → held (taken_over (of s w).ledgers (of s v).ledgers) o
        ≡ or_else (held (of s v).ledgers o) (held (of s w).ledgers o)
    taken o = held-taken_over (of s w).ledgers (of s v).ledgers o (holders.sizes w ∙ sym (holders.sizes v))

    -- what neither holds but the leaver, the heir holds then
    from_leaver : (o : ℕ) (a b : Option Ledger) → held (of s v).ledgers o ≡ a → held (of s w).ledgers o ≡ b → h o ≡ v
        → queue_of a ≡ queue_of (or_else a b)
    from_leaver o (Some l) b i k e = refl
    from_leaver o None None i k e = refl
    from_leaver o None (Some l) i k e = absurd (ne (sym e ∙ sym (holders.only w o (ap is_some k))))

    from_heir : (o : ℕ) (a b : Option Ledger) → held (of s v).ledgers o ≡ a → (h o ≡ v → ⊥)
        → queue_of b ≡ queue_of (or_else a b)
    from_heir o None b i far = refl
    from_heir o (Some l) b i far = absurd (far (sym (holders.only v o (ap is_some i))))

    queue_same : (o : ℕ) → held_queue (of s (h o)) o ≡ held_queue (of t (heirs h w v o)) o
    queue_same o = elim (ℕ_discrete (h o) v) [
      | yes e ↦ ap (λ (y : ℕ). held_queue (of s y) o) e
          ∙ (from_leaver o (held (of s v).ledgers o) (held (of s w).ledgers o) refl refl e
          ∙ (ap queue_of (sym (taken o)) ∙ (ap (λ k. held_queue k o) (sym j.heir)
          ∙ ap (λ (y : ℕ). held_queue (of t y) o) (sym (cond-true (eqb (h o) v) w (h o) (eq-eqb (h o) v e))))))
      | no far ↦ by_worker s t w v j (λ u k. h o ≡ u → held_queue (of s (h o)) o ≡ held_queue k o)
          (λ e. ap (λ (y : ℕ). held_queue (of s y) o) e
          ∙ (from_heir o (held (of s v).ledgers o) (held (of s w).ledgers o) refl far ∙ ap queue_of (sym (taken o))))
          (λ e. absurd (far e)) (λ u _ _ e. ap (λ (y : ℕ). held_queue (of s y) o) e) (h o) refl
          ∙ ap (λ (y : ℕ). held_queue (of t y) o) (sym (cond-false (eqb (h o) v) w (h o) (ne_eqb (h o) v far)))
    ]
