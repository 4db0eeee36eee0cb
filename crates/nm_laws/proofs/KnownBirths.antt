-- Births that a worker knows, and what it stored in a private slot, stand in memory.
use Rattle.std.proofs.Common.{◌≡◌, ℕ, ◌+◌, ◌==◌, ◌<◌, ◌≢◌, ◌⊎◌, inl, inr, eqb, Bool, true, false, cond, ◌&&◌, List, [], ◌∷◌, length, get_or, refl, sym, ap, ◌∙◌, arith, true≢false, get_or-set_same, get_or-set_other}
use Rattle.std.specs.Prelude.{Option, Some, None, is_some, unwrap_or, nat_lt}
use Rattle.std.specs.Ordering.{nat_cmp, is_eq}
use native.Mathlib.Decide.{ℕ_discrete}
use Rattle.std.proofs.lemmas.Bool.{cond_both, cond-true, cond-false, cases_lt, eqb-true, eq-eqb, ne_eqb, or_parts}
use Rattle.std.proofs.lemmas.List.{set_past}
use Rattle.std.proofs.lemmas.Option.{none-some, same_Some}
use Rattle.nm_edge.specs.Edges.{Edge, to, is_to, tagged}
use Rattle.nm_edge.specs.declared.edge.Side.{Side}
use Rattle.nm_edge.specs.declared.edge.Side.TheVariants.{Left, Right}
use Rattle.nm_edge.specs.declared.node.NodeId.{NodeId}
use Rattle.nm_model.specs.declared.event.Field.{Field}
use Rattle.nm_model.specs.declared.event.Field.TheVariants.{Key, Edge as EdgeOn, Birth}
use Rattle.nm_model.specs.declared.event.Event.{Event}
use Rattle.nm_model.specs.declared.event.Event.TheVariants.{Sight, SightFor, Announce, Leave, LeaveWith, Scan, Advance, Claim, Give, Look, Fill, Link, Flag, Tag, Splice, Swap, Join}
use Rattle.nm_model.specs.declared.reply.Reply.TheVariants.{Labelled, Pinned, Missed, Moved, Behind, Claimed, Taken, Returned, Freed, Linked, Flagged, Cut, Lost}
use Rattle.nm_edge.specs.Layouts.{Layout}
use Rattle.nm_model.specs.declared.memory.Node.{Node}
use Rattle.nm_model.specs.declared.knowledge.Seen.{Seen}
use Rattle.nm_model.specs.declared.knowledge.Draft.{Draft}
use Rattle.nm_model.specs.Maps.{get, put, without, is_number}
use Rattle.nm_model.specs.Memory.{Memory, blank, node, edge, in_pool, announcement, named, with_edge, put_node, put_edge}
use Rattle.nm_model.specs.Ledgers.{front_of}
use Rattle.nm_model.specs.Knowledge.{Knowledge, unread, unfilled, knows, is_private, seen_of, draft_of, read, beside}
use Rattle.nm_model.specs.Learning.{learn, saw, pinned, met, with_read, read_edge, look_private, look_known, filled_in, linked_in, swapped_in, cutting, flag_to}
use Rattle.nm_model.specs.Step.{outside, is_edge, reply_sight, confirmed, reply_scan, reply_look, node_of, node_linked, cut_nodes, exchanged, filled, kept, refusal, reply, write}
use Rattle.nm_model.specs.Runs.{State, of, start, next, refusal_of, reply_of, applied}
use Rattle.nm_model.specs.Laws.{OfEachState}
use Rattle.nm_model.specs.Lawful.{EachBirthStands}
use Rattle.nm_model.proofs.Tables.{get-put, get-without, ascends-without}
use Rattle.nm_laws.proofs.Steps.{each, Allowed, passed}
use Rattle.nm_laws.proofs.Epochs.{other_worker}
use Rattle.nm_laws.proofs.Pins.{all_new}
use Rattle.nm_laws.proofs.Learned.{learn_sight_for, learn_leave_with, learn_saw, learn_labelled, learn_pinned, learn_missed, learn_announced, learn_departed, learn_idle, learn_in, learn_moved, learn_behind, learn_claimed, learn_taken, learn_returned, learn_freed, learn_look, learn_filled, learn_linked, learn_link_lost, learn_flagged, learn_flag_lost, learn_was, learn_cut, learn_splice_lost, learn_swapped, learn_swap_lost}
use Rattle.nm_laws.proofs.Pictures.{nowhere_else}
use Rattle.nm_laws.proofs.Pictures.SeekRecord.{PrivateTo}
use Rattle.nm_laws.proofs.Views.{picture, seen_met}
use Rattle.nm_laws.proofs.Holders.{joins, by_worker}
use Rattle.nm_laws.proofs.TreeSteps.{Lawful, slot_inside, fill_checked}
use Rattle.nm_laws.proofs.Lawful.{applied_is, each_turn}
use Rattle.nm_laws.proofs.Turns.{LawfulTurn}
use Rattle.nm_laws.proofs.Once.{OnceLaw, sound_over, sound_start}

record Fits (m : Memory) (k : Knowledge) : Type 0 where
  seen : (x b : ℕ) → (seen_of k x).birth ≡ Some b → (node m x).birth ≡ b
  looked : (x b : ℕ) → (draft_of k x).looked ≡ Some b → (node m x).birth ≡ b
  stored : (x b : ℕ) → (draft_of k x).birth ≡ Some b → (node m x).birth ≡ b
  key : (x v : ℕ) → (draft_of k x).key ≡ Some v → (node m x).key ≡ v

-- the words of a node that edges leave alone
pub record SameNode (m n : Memory) (x : ℕ) : Type 0 where
  pub birth : (node n x).birth ≡ (node m x).birth
  pub key : (node n x).key ≡ (node m x).key

node_same : (m : Memory) (p : ℕ) (n : Node) → n.birth ≡ (node m p).birth → n.key ≡ (node m p).key → (x : ℕ)
    → SameNode m (put_node m p n) x
node_same m p n birth key x = elim (ℕ_discrete x p) [
  | yes e ↦ rw e (elim (cases_lt p (length m.nodes)) [
    | inl inside ↦ record {
      birth = ap (λ (z : Node). z.birth) (get_or-set_same m.nodes p n blank inside)
          ∙ birth;
      key = ap (λ (z : Node). z.key) (get_or-set_same m.nodes p n blank inside) ∙ key;
    }
    | inr past ↦ record {
      birth = ap (λ ns. (get_or ns p blank).birth) (set_past m.nodes p n past);
      key = ap
          (λ ns. (get_or ns p blank).key) (set_past m.nodes p n past);
    }
  ])
  | no ne ↦ record {
    birth = ap (λ (z : Node). z.birth) (get_or-set_other m.nodes p x n blank ne);
    key = ap
        (λ (z : Node). z.key) (get_or-set_other m.nodes p x n blank ne);
  }
]

edge_same : (m : Memory) (p : ℕ) (d : Side) (e : Edge) (x : ℕ) → SameNode m (put_edge m p d e) x
edge_same m p Left e x = node_same m p (with_edge (node m p) Left e) refl refl x
edge_same m p Right e x = node_same m p (with_edge (node m p) Right e) refl refl x

itself : (m : Memory) (x : ℕ) → SameNode m m x
itself m x = record { birth = refl; key = refl }

exchange_same : (m : Memory) (p : ℕ) (d : Side) (leaf : ℕ) (e : Edge) (x : ℕ) → SameNode m (exchanged m p d leaf e) x
exchange_same m p d leaf e x = cond_both (is_to (edge m p d) leaf) (put_edge m p d e) m (λ n. SameNode m n x)
    (λ _. edge_same m p d e x) (λ _. itself m x)

-- only a fill changes a node's birth or key, of its own slot
pub written_same : (m : Memory) (k : Knowledge) (w : ℕ) (e : Event) (x : ℕ)
    → ((y : ℕ) (f : Field) (v : ℕ) → e ≡ Fill y f v → x ≢ y) → SameNode m (write m k w e) x
unfolding write
written_same m k w Advance x apart = cond_both (is_number k.brief.seen m.epoch) (record m { epoch = m.epoch + 1 }) m
    (λ n. SameNode m n x) (λ _. record { birth = refl; key = refl }) (λ _. itself m x)
written_same m k w (Fill y f v) x apart = record {
  birth = ap (λ (z : Node). z.birth)
      (get_or-set_other m.nodes y x (filled (node m y) f v) blank (apart y f v refl));
  key = ap (λ (z : Node). z.key)
      (get_or-set_other m.nodes y x (filled (node m y) f v) blank (apart y f v refl));
}
written_same m k w (Link p d leaf new) x apart = exchange_same m p d leaf (to new) x
written_same m k w (Flag p d leaf) x apart = exchange_same m p d leaf (flag_to leaf) x
written_same m k w (Tag p d) x apart = edge_same m p d (tagged (edge m p d)) x
written_same m k w (Splice a d s p keep) x apart = exchange_same m a d s (kept (read k p keep)) x
written_same m k w (Swap p d leaf new) x apart = exchange_same m p d leaf (to new) x
written_same m k w e x apart = record { birth = refl; key = refl }

-- a link changes no key
pub written_keys : (m : Memory) (k : Knowledge) (w p : ℕ) (d : Side) (leaf new x : ℕ)
    → (node (exchanged m p d leaf (to new)) x).key ≡ (node m x).key
written_keys m k w p d leaf new x = (exchange_same m p d leaf (to new) x).key

-- ---- knowledge that holds no more births than before

record NoMore (k l : Knowledge) : Type 0 where
  seen : (x b : ℕ) → (seen_of l x).birth ≡ Some b → (seen_of k x).birth ≡ Some b
  drafts : (x : ℕ) → (draft_of l x ≡ draft_of k x) ⊎ (draft_of l x ≡ unfilled)

no_more_itself : (k : Knowledge) → NoMore k k
no_more_itself k = record { seen = λ x b is. is; drafts = λ x. inl refl }

fits_less : (m : Memory) (k l : Knowledge) → NoMore k l → Fits m k → Fits m l
fits_less m k l less fits = record {
  seen = λ x b is. fits.seen x b (less.seen x b is);
  looked = λ x b is. by (λ d. d.looked) refl x b is (less.drafts x) (fits.looked x b);
  stored = λ x b is. by (λ d. d.birth) refl x b is (less.drafts x) (fits.stored x b);
  key = λ x v is. by (λ d. d.key) refl x v is (less.drafts x) (fits.key x v);
}
  where
    by : {A : Type 0} (g : Draft → Option ℕ) → g unfilled ≡ None → (x b : ℕ) → g (draft_of l x) ≡ Some b
        → (draft_of l x ≡ draft_of k x) ⊎ (draft_of l x ≡ unfilled) → (g (draft_of k x) ≡ Some b → A) → A
    by g none x b is (inl same) f = f (sym (ap g same) ∙ is)
    by g none x b is (inr gone) f = absurd (none-some b (sym (ap g gone ∙ none) ∙ is))

-- and memory that keeps its nodes
fits_kept : (m n : Memory) (k : Knowledge) → ((x : ℕ) → SameNode m n x) → Fits m k → Fits n k
fits_kept m n k same fits = record {
  seen = λ x b is. (same x).birth ∙ fits.seen x b is;
  looked = λ x b is. (same x).birth ∙ fits.looked x b is;
  stored = λ x b is. (same x).birth ∙ fits.stored x b is;
  key = λ x v is. (same x).key ∙ fits.key x v is;
}

-- ---- the shapes of what is learned

less_read : (k : Knowledge) (p : ℕ) (d : Side) (e : Edge) → NoMore k (read_edge k p d e)
less_read k p d e = record { seen = λ x b is. sym (same x) ∙ is; drafts = λ x. inl refl }
  where
    with_birth : (n : Seen) (d : Side) → (with_read n d e).birth ≡ n.birth
    with_birth n Left = refl
    with_birth n Right = refl

    same : (x : ℕ) → (seen_of (read_edge k p d e) x).birth ≡ (seen_of k x).birth
    same x = ap (λ o. (unwrap_or o unread).birth) (get-put (met k.known e.slot) p (with_read (seen_of k p) d e) x)
        ∙ go (eqb x p) refl
      where
        go : (b : Bool) → eqb x p ≡ b → (unwrap_or (cond b (Some (with_read (seen_of k p) d e))
            (get (met k.known e.slot) x)) unread).birth ≡ (seen_of k x).birth
        go true i = with_birth (seen_of k p) d ∙ ap (λ (y : ℕ). (seen_of k y).birth) (sym (eqb-true x p i))
        go false i = ap (λ (n : Seen). n.birth) (seen_met k.known e.slot x)

less_known : (k l : Knowledge) → l.known ≡ k.known → l.drafts ≡ k.drafts → NoMore k l
less_known k l known drafts = record {
  seen = λ x b is. ap (λ n. (unwrap_or (get n x) unread).birth) (sym known) ∙ is;
  drafts = λ x. inl (ap (λ d. unwrap_or (get d x) unfilled) drafts);
}

draft_put : (k : Knowledge) (s : ℕ) (d : Draft) (x : ℕ)
    → ((x ≡ s) × (draft_of (record k { drafts = put k.drafts s d }) x ≡ d))
    ⊎ ((x ≢ s) × (draft_of (record k { drafts = put k.drafts s d }) x ≡ draft_of k x))
draft_put k s d x = elim (ℕ_discrete x s) [
  | yes e ↦ inl (
    e,
    ap (λ o. unwrap_or o unfilled)
        (get-put k.drafts s d x ∙ cond-true (eqb x s) (Some d) (get k.drafts x) (eq-eqb x s e)),
  )
  | no ne ↦ inr (
    ne,
    ap (λ o. unwrap_or o unfilled)
        (get-put k.drafts s d x ∙ cond-false (eqb x s) (Some d) (get k.drafts x) (ne_eqb x s ne)),
  )
]

-- a draft is put, and the node of its slot alone may change
fits_put : (m n : Memory) (k : Knowledge) (s : ℕ) (d : Draft) → Fits m k → ((x : ℕ) → x ≢ s → SameNode m n x)
    → ((b : ℕ) → (seen_of k s).birth ≡ Some b → (node n s).birth ≡ b)
    → ((b : ℕ) → d.looked ≡ Some b → (node n s).birth ≡ b) → ((b : ℕ) → d.birth ≡ Some b → (node n s).birth ≡ b)
    → ((v : ℕ) → d.key ≡ Some v → (node n s).key ≡ v)
    → Fits n (record k { drafts = put k.drafts s d })
fits_put m n k s d fits same seen looked stored key = record {
  seen = λ x b is. elim (ℕ_discrete x s) [
    | yes e ↦ ap (λ (y : ℕ). (node n y).birth) e
        ∙ seen b (ap (λ (y : ℕ). (seen_of k y).birth) (sym e) ∙ is)
    | no ne ↦ (same x ne).birth ∙ fits.seen x b is
  ];
  looked = λ x b is. by (λ d. d.looked) (λ y. y.birth) x b (λ ne. (same x ne).birth) (looked b) (fits.looked x b)
      (draft_put k s d x) is;
  stored = λ x b is. by (λ d. d.birth) (λ y. y.birth) x b (λ ne. (same x ne).birth) (stored b) (fits.stored x b)
      (draft_put k s d x) is;
  key = λ x v is. by (λ d. d.key) (λ y. y.key) x v (λ ne. (same x ne).key) (key v) (fits.key x v) (draft_put k s d x)
      is;
}
  where
    by : (g : Draft → Option ℕ) (f : Node → ℕ) (x b : ℕ) → (x ≢ s → f (node n x) ≡ f (node m x))
        → (g d ≡ Some b → f (node n s) ≡ b) → (g (draft_of k x) ≡ Some b → f (node m x) ≡ b)
        → ((x ≡ s) × (draft_of (record k { drafts = put k.drafts s d }) x ≡ d))
        ⊎ ((x ≢ s) × (draft_of (record k { drafts = put k.drafts s d }) x ≡ draft_of k x))
        → g (draft_of (record k { drafts = put k.drafts s d }) x) ≡ Some b → f (node n x) ≡ b
    by g f x b kept' here was (inl e) is = ap (λ (y : ℕ). f (node n y)) e.0 ∙ here (sym (ap g e.1) ∙ is)
    by g f x b kept' here was (inr e) is = kept' e.0 ∙ was (sym (ap g e.1) ∙ is)

seen_known : (k : Knowledge) (x b : ℕ) → (seen_of k x).birth ≡ Some b → knows k x ≡ true
seen_known k x b = go (get k.known x)
  where
    go : (o : Option Seen) → (unwrap_or o unread).birth ≡ Some b → is_some o ≡ true
    go None is = absurd (none-some b is)
    go (Some n) is = refl

drafted_private : (k : Knowledge) (x : ℕ) (g : Draft → Option ℕ) → g unfilled ≡ None → (b : ℕ)
    → g (draft_of k x) ≡ Some b → is_private k x ≡ true
drafted_private k x g none b = go (get k.drafts x)
  where
    go : (o : Option Draft) → g (unwrap_or o unfilled) ≡ Some b → is_some o ≡ true
    go None is = absurd (none-some b (sym none ∙ is))
    go (Some d) is = refl

module _ (s : State) (h : ℕ → ℕ) (law : Lawful s h) (w : ℕ) where
  -- a known slot is private to nobody
  known_not_private : (u v x : ℕ) → knows (of s u) x ≡ true → is_private (of s v) x ≡ true → ⊥
  known_not_private u v x k own = let r = law.tree.known u x k in
      true≢false (sym own ∙ (law.tree.guarded u x (record
      { from = x; known = k; path = []; ends = refl; is_slot = λ z. omega arith })).shared v)

  -- a slot is private to one worker
  one_owner : (u v x : ℕ) → is_private (of s u) x ≡ true → is_private (of s v) x ≡ true → u ≡ v
  one_owner u v x a b = let r = law.tree.privates u x a in
      same u v (nowhere_else (picture s h) x (PrivateTo u) (PrivateTo v) (law.tree.places x (λ z. omega arith) r.1) a b)
    where
      same : (u v : ℕ) → PrivateTo u ≡ PrivateTo v → u ≡ v
      same u v e = cc

  others_fit : (e : Event) → Allowed s w e → (u : ℕ) → u ≢ w → Fits s.memory (of s u)
      → Fits (write s.memory (of s w) w e) (of s u)
  others_fit e ok u ne fits = record {
    seen = λ x b is. (same x (λ own. known_not_private u w x (seen_known (of s u) x b is) own)).birth
        ∙ fits.seen x b is;
    looked = λ x b is. (same x (λ own. ne (one_owner u w x (drafted_private (of s u) x (λ d. d.looked) refl b is)
        own))).birth ∙ fits.looked x b is;
    stored = λ x b is. (same x (λ own. ne (one_owner u w x (drafted_private (of s u) x (λ d. d.birth) refl b is)
        own))).birth ∙ fits.stored x b is;
    key = λ x v is. (same x (λ own. ne (one_owner u w x (drafted_private (of s u) x (λ d. d.key) refl v is)
        own))).key ∙ fits.key x v is;
  }
    where
      same : (x : ℕ) → (is_private (of s w) x ≡ true → ⊥) → SameNode s.memory (write s.memory (of s w) w e) x
      same x apart = written_same s.memory (of s w) w e x
          (λ y f v is z. apart (rw z (fill_checked s w e ok.event y f v is)))

  fill_fits : (x : ℕ) (f : Field) (v : ℕ) → x < length s.memory.nodes → is_private (of s w) x ≡ true
      → Fits s.memory (of s w)
      → Fits (put_node s.memory x (filled (node s.memory x) f v))
      (record (of s w) { drafts = put (of s w).drafts x (filled_in (draft_of (of s w) x) f v) })
  fill_fits x f v inside own fits = fits_put s.memory (put_node s.memory x (filled (node s.memory x) f v)) (of s w) x
      (filled_in (draft_of (of s w) x) f v) fits
      (λ y ne. record { birth = ap (λ (z : Node). z.birth) (there y ne); key = ap (λ (z : Node). z.key) (there y ne) })
      (λ b is. absurd (known_not_private w w x (seen_known (of s w) x b is) own))
      (λ b is. ap (λ (z : Node). z.birth) here ∙ looked f b is)
      (λ b is. ap (λ (z : Node). z.birth) here ∙ stored f b is) (λ k is. ap (λ (z : Node). z.key) here ∙ key f k is)
    where
      here : node (put_node s.memory x (filled (node s.memory x) f v)) x ≡ filled (node s.memory x) f v
      here = get_or-set_same s.memory.nodes x (filled (node s.memory x) f v) blank inside

      there : (y : ℕ) → y ≢ x → node (put_node s.memory x (filled (node s.memory x) f v)) y ≡ node s.memory y
      there y ne = get_or-set_other s.memory.nodes x y (filled (node s.memory x) f v) blank ne

      looked : (f : Field) (b : ℕ) → (filled_in (draft_of (of s w) x) f v).looked ≡ Some b
          → (filled (node s.memory x) f v).birth ≡ b
      looked Key b is = fits.looked x b is
      looked (EdgeOn Left) b is = fits.looked x b is
      looked (EdgeOn Right) b is = fits.looked x b is
      looked Birth b is = absurd (none-some b is)

      stored : (f : Field) (b : ℕ) → (filled_in (draft_of (of s w) x) f v).birth ≡ Some b
          → (filled (node s.memory x) f v).birth ≡ b
      stored Key b is = fits.stored x b is
      stored (EdgeOn Left) b is = fits.stored x b is
      stored (EdgeOn Right) b is = fits.stored x b is
      stored Birth b is = same_Some v b is

      key : (f : Field) (k : ℕ) → (filled_in (draft_of (of s w) x) f v).key ≡ Some k
          → (filled (node s.memory x) f v).key ≡ k
      key Key k is = same_Some v k is
      key (EdgeOn Left) k is = fits.key x k is
      key (EdgeOn Right) k is = fits.key x k is
      key Birth k is = fits.key x k is

  quiet_fits : (m : Memory) (k : Knowledge) → ((x : ℕ) → SameNode s.memory m x) → NoMore (of s w) k
      → Fits s.memory (of s w) → Fits m k
  quiet_fits m k same less fits = fits_less m (of s w) k less (fits_kept s.memory m (of s w) same fits)

  pinned_less : (e : ℕ) → NoMore (of s w) (pinned (saw (of s w) e) e)
  pinned_less e = record {
    seen = λ x b is. absurd
        (none-some b (sym (root (is_eq (nat_cmp x 1)) (is_eq (nat_cmp x 2))) ∙ is));
    drafts = λ x. inl refl;
  }
    where
      root : (a b : Bool) → (unwrap_or (cond a (Some unread) (cond b (Some unread) None)) unread).birth ≡ None
      root true b = refl
      root false true = refl
      root false false = refl

  sight_fits : Fits s.memory (of s w) → Fits s.memory (learn w (of s w) Sight (reply_sight (of s w) s.memory.epoch))
  sight_fits fits = cond_both (of s w).brief.unlabelled (Labelled s.memory.epoch)
      (confirmed (of s w).brief.pin (of s w).brief.announcement s.memory.epoch)
      (λ r. Fits s.memory (learn w (of s w) Sight r))
      (λ _. rw (learn_labelled w (of s w) s.memory.epoch)
      (quiet_fits s.memory _ (itself s.memory) (less_known (of s w) _ refl refl) fits))
      (λ _. by (of s w).brief.pin (of s w).brief.announcement)
    where
      seen' : Fits s.memory (saw (of s w) s.memory.epoch)
      seen' = quiet_fits s.memory _ (itself s.memory) (less_known (of s w) _ refl refl) fits

      by : (p n : Option ℕ) → Fits s.memory (learn w (of s w) Sight (confirmed p n s.memory.epoch))
      by (Some p) n = rw (learn_saw w (of s w) s.memory.epoch) seen'
      by None None = rw (learn_saw w (of s w) s.memory.epoch) seen'
      by None (Some a) = cond_both (a == s.memory.epoch) (Pinned s.memory.epoch) (Missed s.memory.epoch)
          (λ r. Fits s.memory (learn w (of s w) Sight r))
          (λ _. rw (learn_pinned w (of s w) s.memory.epoch)
          (quiet_fits s.memory _ (itself s.memory) (pinned_less s.memory.epoch) fits))
          (λ _. rw (learn_missed w (of s w) s.memory.epoch) seen')

  claimed_less : (x : ℕ) → NoMore (of s w) (record (of s w) { drafts = put (of s w).drafts x unfilled })
  claimed_less x = record { seen = λ y b is. is; drafts = λ y. go y (draft_put (of s w) x unfilled y) }
    where
      go : (y : ℕ) → ((y ≡ x) × (draft_of (record (of s w) { drafts = put (of s w).drafts x unfilled }) y
          ≡ unfilled)) ⊎ ((y ≢ x) × (draft_of (record (of s w) { drafts = put (of s w).drafts x unfilled }) y
          ≡ draft_of (of s w) y))
          → (draft_of (record (of s w) { drafts = put (of s w).drafts x unfilled }) y ≡ draft_of (of s w) y)
          ⊎ (draft_of (record (of s w) { drafts = put (of s w).drafts x unfilled }) y ≡ unfilled)
      go y (inl e) = inr e.1
      go y (inr e) = inl e.1

  given_less : (x : ℕ) → NoMore (of s w) (record (of s w) { drafts = without (of s w).drafts x })
  given_less x = record {
    seen = λ y b is. is;
    drafts = λ y. elim (ℕ_discrete y x) [
      | yes e ↦ inr (ap (λ o. unwrap_or o unfilled) (get-without (of s w).drafts x y (law.drafts w)
          ∙ cond-true (eqb y x) None (get (of s w).drafts y) (eq-eqb y x e)))
      | no ne ↦ inl (ap (λ o. unwrap_or o unfilled) (get-without (of s w).drafts x y (law.drafts w)
          ∙ cond-false (eqb y x) None (get (of s w).drafts y) (ne_eqb y x ne)))
    ];
  }

  swapped_less : (new : ℕ) (ns : List NodeId) → NoMore (of s w) (cutting w (swapped_in (of s w) new) ns)
  swapped_less new ns = record {
    seen = λ x b is. sym (ap (λ (n : Seen). n.birth) (seen_met (of s w).known new x)) ∙ is;
    drafts = λ y. (given_less new).drafts y;
  }

  linked_less : (leaf new : ℕ) → NoMore (of s w) (linked_in (of s w) leaf new)
  linked_less leaf new = record {
    seen = λ x b is. sym (ap (λ (n : Seen). n.birth) (seen_met (of s w).known new x)) ∙ is;
    drafts = λ y. elim (ℕ_discrete y far) [
      | yes e ↦ inr (ap (λ o. unwrap_or o unfilled) (gone y ∙ cond-true (eqb y far) None _ (eq-eqb y far e)))
      | no ne ↦ elim (ℕ_discrete y new) [
        | yes e ↦ inr (ap (λ o. unwrap_or o unfilled)
            (gone y ∙ (cond-false (eqb y far) None _ (ne_eqb y far ne)
            ∙ (get-without (of s w).drafts new y (law.drafts w)
            ∙ cond-true (eqb y new) None (get (of s w).drafts y) (eq-eqb y new e)))))
        | no other ↦ inl (ap (λ o. unwrap_or o unfilled)
            (gone y ∙ (cond-false (eqb y far) None _ (ne_eqb y far ne)
            ∙ (get-without (of s w).drafts new y (law.drafts w)
            ∙ cond-false (eqb y new) None (get (of s w).drafts y) (ne_eqb y new other)))))
      ]
    ];
  }
    where
      far : ℕ
      far = unwrap_or (beside (draft_of (of s w) new) leaf) 0

      gone : (y : ℕ) → get (without (without (of s w).drafts new)
          (unwrap_or (beside (draft_of (of s w) new) leaf) 0)) y
          ≡ cond (eqb y (unwrap_or (beside (draft_of (of s w) new) leaf) 0)) None (get (without (of s w).drafts new) y)
      gone y = get-without (without (of s w).drafts new) (unwrap_or (beside (draft_of (of s w) new) leaf) 0) y
          (ascends-without (of s w).drafts new (law.drafts w))

  look_fits : (x : ℕ) (f : Field) → Fits s.memory (of s w)
      → Fits s.memory (learn w (of s w) (Look x f) (reply_look (node s.memory x) f))
  look_fits x f fits = rw (learn_look w (of s w) x f (reply_look (node s.memory x) f))
      (cond_both (is_private (of s w) x) (look_private (of s w) x f (reply_look (node s.memory x) f))
      (look_known (of s w) x f (reply_look (node s.memory x) f)) (λ k. Fits s.memory k)
      (λ _. mine f) (λ _. others f))
    where
      mine : (f : Field) → Fits s.memory (look_private (of s w) x f (reply_look (node s.memory x) f))
      mine Key = fits
      mine (EdgeOn d) = fits
      mine Birth = fits_put s.memory s.memory (of s w) x _ fits (λ y _. itself s.memory y) (fits.seen x)
          (λ b is. same_Some _ b is) (fits.stored x) (fits.key x)

      born : Knowledge
      born = record (of s w) {
        known = put (of s w).known x
            (record (seen_of (of s w) x) { birth = Some (node s.memory x).birth });
      }

      by : (y b : ℕ) (c : Bool) → eqb y x ≡ c → (unwrap_or
          (cond c (Some (record (seen_of (of s w) x) { birth = Some (node s.memory x).birth })) (get (of s w).known y))
          unread).birth ≡ Some b → (node s.memory y).birth ≡ b
      by y b true e is = ap (λ (z : ℕ). (node s.memory z).birth) (eqb-true y x e) ∙ same_Some _ b is
      by y b false e is = fits.seen y b is

      others : (f : Field) → Fits s.memory (look_known (of s w) x f (reply_look (node s.memory x) f))
      others Key = fits
      others (EdgeOn d) = quiet_fits s.memory _ (itself s.memory) (less_read (of s w) x d (edge s.memory x d)) fits
      others Birth = record {
        seen = λ y b is. by y b (eqb y x) refl (ap (λ o. (unwrap_or o unread).birth)
            (sym (get-put (of s w).known x (record (seen_of (of s w) x) { birth = Some (node s.memory x).birth }) y))
            ∙ is);
        looked = fits.looked;
        stored = fits.stored;
        key = fits.key;
      }

  own_fits : (e : Event) → Allowed s w e → ((v : ℕ) → e ≡ Join v → ⊥) → Fits s.memory (of s w)
      → Fits (write s.memory (of s w) w e) (learn w (of s w) e (reply_of s w e))
  unfolding refusal reply write
  own_fits e ok alone fits = go e ok.event alone
    where
      go : (e : Event) → refusal_of s w e ≡ None → ((v : ℕ) → e ≡ Join v → ⊥)
          → Fits (write s.memory (of s w) w e) (learn w (of s w) e (reply_of s w e))
      go Sight ok alone = sight_fits fits
      go (SightFor op key) ok alone = rw (learn_sight_for w (of s w) op key (reply_sight (of s w) s.memory.epoch))
          (sight_fits fits)
      go Announce ok alone = rw (learn_announced w (of s w) _)
          (quiet_fits _ _ (λ x. record { birth = refl; key = refl }) (less_known (of s w) _ refl refl) fits)
      go Leave ok alone = rw (learn_departed w (of s w))
          (quiet_fits _ _ (λ x. record { birth = refl; key = refl })
          (record { seen = λ x b is. absurd (none-some b is); drafts = λ x. inl refl }) fits)
      go (LeaveWith answer) ok alone = rw (learn_leave_with w (of s w) answer, learn_departed w (of s w))
          (quiet_fits _ _ (λ x. record { birth = refl; key = refl })
          (record { seen = λ x b is. absurd (none-some b is); drafts = λ x. inl refl }) fits)
      go (Scan u) ok alone = by (announcement s.memory u)
        where
          by : (o : Option ℕ) → Fits s.memory (learn w (of s w) (Scan u) (reply_scan o))
          by None = rw (learn_idle w (of s w) u) (quiet_fits _ _ (itself s.memory) (less_known (of s w) _ refl refl)
              fits)
          by (Some e) = rw (learn_in w (of s w) u e) (quiet_fits _ _ (itself s.memory)
              (less_known (of s w) _ refl refl) fits)
      go Advance ok alone = by (is_number (of s w).brief.seen s.memory.epoch)
        where
          by : (b : Bool) → Fits (cond b (record s.memory { epoch = s.memory.epoch + 1 }) s.memory)
              (learn w (of s w) Advance (cond b (Moved (s.memory.epoch + 1)) (Behind s.memory.epoch)))
          by true = rw (learn_moved w (of s w) (s.memory.epoch + 1))
              (quiet_fits _ _ (λ x. record { birth = refl; key = refl }) (less_known (of s w) _ refl refl) fits)
          by false = rw (learn_behind w (of s w) s.memory.epoch)
              (quiet_fits _ _ (itself s.memory) (less_known (of s w) _ refl refl) fits)
      go (Claim x) ok alone = cond_both (in_pool s.memory x) (Claimed x) Taken
          (λ r. Fits (write s.memory (of s w) w (Claim x)) (learn w (of s w) (Claim x) r))
          (λ _. rw (learn_claimed w (of s w) x x) (quiet_fits _ _ (λ y. record { birth = refl; key = refl })
          (claimed_less x) fits))
          (λ _. rw (learn_taken w (of s w) x) (quiet_fits _ _ (λ y. record { birth = refl; key = refl })
          (no_more_itself (of s w)) fits))
      go (Give x) ok alone = cond_both (is_private (of s w) x) (Returned x)
          (Freed (node_of (front_of (of s w).ledgers x)))
          (λ r. Fits (write s.memory (of s w) w (Give x)) (learn w (of s w) (Give x) r))
          (λ _. rw (learn_returned w (of s w) x x) (quiet_fits _ _ (λ y. record { birth = refl; key = refl })
          (given_less x) fits))
          (λ _. rw (learn_freed w (of s w) x _) (quiet_fits _ _ (λ y. record { birth = refl; key = refl })
          (less_known (of s w) _ refl refl) fits))
      go (Look x f) ok alone = look_fits x f fits
      go (Fill x f v) ok alone = rw (learn_filled w (of s w) x f v) (fill_fits x f v
          (slot_inside s h law x 6 (or_parts (outside 6 s.layout.nodes x) (is_edge f && nat_lt s.layout.nodes v)
          (passed _ _ _ ok).0).0) (fill_checked s w (Fill x f v) ok x f v refl) fits)
      go (Link p d leaf new) ok alone = cond_both (is_to (edge s.memory p d) leaf)
          (Linked (node_linked (of s w) new)) (Lost (edge s.memory p d))
          (λ r. Fits (write s.memory (of s w) w (Link p d leaf new)) (learn w (of s w) (Link p d leaf new) r))
          (λ _. rw (learn_linked w (of s w) p d leaf new (node_linked (of s w) new))
          (quiet_fits _ _ (exchange_same s.memory p d leaf (to new)) (linked_less leaf new) fits))
          (λ _. rw (learn_link_lost w (of s w) p d leaf new (edge s.memory p d))
          (quiet_fits _ _ (exchange_same s.memory p d leaf (to new)) (less_read (of s w) p d (edge s.memory p d))
          fits))
      go (Flag p d leaf) ok alone = cond_both (is_to (edge s.memory p d) leaf) (Flagged (named s.memory leaf))
          (Lost (edge s.memory p d)) (λ r. Fits (write s.memory (of s w) w (Flag p d leaf))
          (learn w (of s w) (Flag p d leaf) r))
          (λ _. rw (learn_flagged w (of s w) p d leaf (named s.memory leaf))
          (quiet_fits _ _ (exchange_same s.memory p d leaf (flag_to leaf)) (less_read (of s w) p d (flag_to leaf))
          fits))
          (λ _. rw (learn_flag_lost w (of s w) p d leaf (edge s.memory p d))
          (quiet_fits _ _ (exchange_same s.memory p d leaf (flag_to leaf))
          (less_read (of s w) p d (edge s.memory p d)) fits))
      go (Tag p d) ok alone = rw (learn_was w (of s w) p d (edge s.memory p d))
          (quiet_fits _ _ (edge_same s.memory p d (tagged (edge s.memory p d)))
          (less_read (of s w) p d (tagged (edge s.memory p d))) fits)
      go (Splice a d x p keep) ok alone = cond_both (is_to (edge s.memory a d) x)
          (Cut (cut_nodes s.layout s.memory (of s w) x p keep)) (Lost (edge s.memory a d))
          (λ r. Fits (write s.memory (of s w) w (Splice a d x p keep)) (learn w (of s w) (Splice a d x p keep) r))
          (λ _. rw (learn_cut w (of s w) a d x p keep (cut_nodes s.layout s.memory (of s w) x p keep))
          (quiet_fits _ _ (exchange_same s.memory a d x (kept (read (of s w) p keep)))
          (less_known (of s w) _ refl refl) fits))
          (λ _. rw (learn_splice_lost w (of s w) a d x p keep (edge s.memory a d))
          (quiet_fits _ _ (exchange_same s.memory a d x (kept (read (of s w) p keep)))
          (less_read (of s w) a d (edge s.memory a d)) fits))
      go (Swap p d leaf new) ok alone = cond_both (is_to (edge s.memory p d) leaf) (Cut (named s.memory leaf ∷ []))
          (Lost (edge s.memory p d))
          (λ r. Fits (write s.memory (of s w) w (Swap p d leaf new)) (learn w (of s w) (Swap p d leaf new) r))
          (λ _. rw (learn_swapped w (of s w) p d leaf new (named s.memory leaf ∷ []))
          (quiet_fits _ _ (exchange_same s.memory p d leaf (to new))
          (swapped_less new (named s.memory leaf ∷ [])) fits))
          (λ _. rw (learn_swap_lost w (of s w) p d leaf new (edge s.memory p d))
          (quiet_fits _ _ (exchange_same s.memory p d leaf (to new))
          (less_read (of s w) p d (edge s.memory p d)) fits))
      go (Join v) ok alone = absurd (alone v refl)

-- ---- runs

fits_joined : (s : State) (w v : ℕ) → w < length s.workers → v < length s.workers → v ≢ w
    → ((u : ℕ) → Fits s.memory (of s u)) → (u : ℕ) → Fits (applied s w (Join v)).memory (of (applied s w (Join v)) u)
unfolding applied write
fits_joined s w v inside there ne fits = by_worker s (applied s w (Join v)) w v (joins s w v inside there ne)
    (λ u k. Fits s.memory k)
    (fits_less s.memory (of s w) _ (less_known (of s w) _ refl refl) (fits w))
    (fits_less s.memory (of s v) _ (less_known (of s v) _ refl refl) (fits v)) (λ u _ _. fits u)

fits_next : (s : State) (h : ℕ → ℕ) → Lawful s h → OnceLaw s h → (t : ℕ × Event) (turn : LawfulTurn s h t)
    → ((u : ℕ) → Fits s.memory (of s u)) → (u : ℕ) → Fits (next s t).memory (of (next s t) u)
fits_next s h law once t turn fits = each_turn s (λ t. (u : ℕ) → Fits (next s t).memory (of (next s t) u))
    (λ t r is_next _. rw is_next fits)
    (λ w e ok is_next _ alone. rw (is_next ∙ applied_is s w e alone)
    (each s.layout (λ u k. Fits (write s.memory (of s w) w e) k) s.workers w _ (inside w ok.worker)
    (own_fits s h law w e ok alone (fits w)) (λ u ne. others_fit s h law w e ok u ne (fits u))))
    (λ w v ok is_next _. let there = other_worker s w v ok.event in
    rw is_next (fits_joined s w v (inside w ok.worker) (inside v there.1) there.0 fits)) t
  where
    inside : (w : ℕ) → w < s.layout.workers → w < length s.workers
    inside w lt = let size = law.staffed.workers in omega (arith, size, lt)

fits_start : (L : Layout) (u : ℕ) → Fits (start L).memory (of (start L) u)
fits_start L u = rw (all_new L u) (record {
  seen = λ x b is. absurd (none-some b is);
  looked = λ x b is. absurd
      (none-some b is);
  stored = λ x b is. absurd (none-some b is);
  key = λ x v is. absurd (none-some v is);
})

pub each_birth_stands : OfEachState EachBirthStands
each_birth_stands L enough turns w =
    let k = sound_over (λ s h. (u : ℕ) → Fits s.memory (of s u)) fits_next (start L) (sound_start L enough) turns
    (fits_start L) in
    let f = k.1 w in
    record { seen = f.seen; looked = f.looked; stored = f.stored; key = f.key }
