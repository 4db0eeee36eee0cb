-- What each event but a join does to the ledgers, drafts and known nodes of the worker that makes
-- it.
use Rattle.std.proofs.Common.{◌≡◌, ℕ, ◌+◌, ◌==◌, ◌≤◌, Bool, true, false, not, ◌||◌, ◌&&◌, List, refl, sym, ap, ◌∙◌, true≢false, cond, [], ◌∷◌, ◌⊎◌, inl, inr}
use Rattle.std.specs.Prelude.{Option, Some, None, is_none, unwrap_or, nat_lt}
use Rattle.std.proofs.lemmas.Bool.{cond_both, or_parts, ltb-false}
use Rattle.nm_edge.specs.Edges.{is_to}
use Rattle.nm_edge.specs.declared.edge.Side.{Side}
use Rattle.nm_edge.specs.declared.node.NodeId.{NodeId}
use Rattle.nm_model.specs.declared.event.Field.{Field}
use Rattle.nm_model.specs.declared.event.Field.TheVariants.{Key, Edge as EdgeOn, Birth}
use Rattle.nm_model.specs.declared.event.Event.{Event}
use Rattle.nm_model.specs.declared.event.Event.TheVariants.{Sight, SightFor, Announce, Leave, LeaveWith, Scan, Advance, Claim, Give, Look, Fill, Link, Flag, Tag, Splice, Swap, Join}
use Rattle.nm_model.specs.declared.reply.Reply.{Reply}
use Rattle.nm_model.specs.declared.reply.Reply.TheVariants.{Labelled, Pinned, Missed, Moved, Behind, Claimed, Taken, Returned, Freed, Linked, Flagged, Cut, Lost}
use Rattle.nm_model.specs.declared.reply.Refused.TheVariants.{NoSlot, NotPinned, NotPrivate, NotReady, NotFront, TooYoung}
use Rattle.nm_model.specs.declared.knowledge.Seen.{Seen}
use Rattle.nm_model.specs.declared.ledger.Queued.{Queued}
use Rattle.nm_model.specs.Maps.{has, is_number}
use Rattle.nm_model.specs.Memory.{announcement, node, edge, in_pool, named}
use Rattle.nm_model.specs.Ledgers.{label, retire, free, front_of, queued_entry}
use Rattle.nm_model.specs.Knowledge.{Knowledge, knows, is_private}
use Rattle.nm_model.specs.Learning.{learn, look_private, look_known}
use Rattle.nm_model.specs.Step.{outside, first, free_checks, has_no_label, is_young, reply_sight, confirmed, reply_scan, reply_look, node_of, cut_nodes, node_linked, refusal, reply}
use Rattle.nm_model.specs.Runs.{State, of, refusal_of, reply_of}
use Rattle.nm_laws.proofs.Steps.{Allowed, passed, second, third, fourth}
use Rattle.nm_model.proofs.Tables.{Ascends, ascends-put, ascends-without}
use Rattle.nm_laws.proofs.Held.{Front, front, front_slot, entry_is_front}
use Rattle.nm_laws.proofs.Learned.{learn_sight_for, learn_leave_with, learn_saw, learn_labelled, learn_pinned, learn_missed, learn_announced, learn_departed, learn_idle, learn_in, learn_moved, learn_behind, learn_claimed, learn_taken, learn_returned, learn_freed, learn_look, learn_filled, learn_linked, learn_link_lost, learn_flagged, learn_flag_lost, learn_was, learn_cut, learn_splice_lost, learn_swapped, learn_swap_lost}

-- an entry whose label and 2 more are no greater than the epoch that was seen
pub record Ripe (seen : Option ℕ) (e : Queued) : Type 0 where
  pub label : ℕ
  pub is_labelled : e.label ≡ Some label
  pub epoch : ℕ
  pub is_seen : seen ≡ Some epoch
  pub old : label + 2 ≤ epoch

-- an event that cuts these nodes is a splice that is won
pub record IsSpliced (s : State) (w : ℕ) (e : Event) (ns : List NodeId) : Type 0 where
  pub ancestor : ℕ
  pub side : Side
  pub successor : ℕ
  pub parent : ℕ
  pub keep : Side
  pub is : e ≡ Splice ancestor side successor parent keep
  pub won : is_to (edge s.memory ancestor side) successor ≡ true
  pub nodes : ns ≡ cut_nodes s.layout s.memory (of s w) successor parent keep

-- or a swap that is won, which cuts the leaf alone
pub record IsSwapped (s : State) (w : ℕ) (e : Event) (ns : List NodeId) : Type 0 where
  pub parent : ℕ
  pub side : Side
  pub leaf : ℕ
  pub new : ℕ
  pub is : e ≡ Swap parent side leaf new
  pub won : is_to (edge s.memory parent side) leaf ≡ true
  pub nodes : ns ≡ named s.memory leaf ∷ []

abbrev pub IsWon : State → ℕ → Event → List NodeId → Type 0
IsWon s w e ns = IsSpliced s w e ns ⊎ IsSwapped s w e ns

-- what becomes of the ledgers of worker w by an event with its reply, where w knows k afterwards
pub data Change (s : State) (w : ℕ) (e : Event) (r : Reply) (k : Knowledge) : Type 0 where
  Keeps : k.ledgers ≡ (of s w).ledgers → k.brief.unlabelled ≡ (of s w).brief.unlabelled
      → ((ns : List NodeId) → r ≡ Cut ns → ⊥) → ((n : NodeId) → r ≡ Freed n → ⊥) → Change s w e r k
  Labels : k.ledgers ≡ label s.memory.epoch (of s w).ledgers → k.brief.unlabelled ≡ false
      → r ≡ Labelled s.memory.epoch → Change s w e r k
  Cuts : (ns : List NodeId) → k.ledgers ≡ retire (of s w).ledgers w ns → k.brief.unlabelled ≡ true → r ≡ Cut ns
      → IsWon s w e ns → Change s w e r k
  Frees : (x : ℕ) (q : Queued) → Front (of s w).ledgers x q q.node → Ripe (of s w).brief.seen q
      → k.ledgers ≡ free (of s w).ledgers q.node → k.brief.unlabelled ≡ (of s w).brief.unlabelled → r ≡ Freed q.node
      → e ≡ Give x → Change s w e r k

-- nodes are known only while a worker is pinned
abbrev pub OnlyPinned : Knowledge → Type 0
OnlyPinned k = (x : ℕ) → knows k x ≡ true → (e : ℕ) × (k.brief.pin ≡ Some e)

pub record Changed (s : State) (w : ℕ) (e : Event) (r : Reply) (k : Knowledge) : Type 0 where
  pub ledgers : Change s w e r k
  pub drafts : Ascends (of s w).drafts → Ascends k.drafts
  pub known : OnlyPinned (of s w) → OnlyPinned k
  pub gone : k.gone ≡ (of s w).gone

has_pin : (o : Option ℕ) → is_none o ≡ false → (e : ℕ) × (o ≡ Some e)
has_pin None h = absurd (true≢false h)
has_pin (Some e) h = (e, refl)

-- the nodes that are known stay those, under the same pin
same_known : (k l : Knowledge) → l.known ≡ k.known → l.brief.pin ≡ k.brief.pin → OnlyPinned k → OnlyPinned l
same_known k l known pin only x h = let p = only x (ap (λ (m : List (ℕ × Seen)). has m x) (sym known) ∙ h) in
    (p.0, pin ∙ p.1)

module _ (s : State) (w : ℕ) where
  -- neither a cut nor a node that is freed
  keeps : (e : Event) (r : Reply) (k : Knowledge) → k.ledgers ≡ (of s w).ledgers
      → k.brief.unlabelled ≡ (of s w).brief.unlabelled → k.known ≡ (of s w).known → k.brief.pin ≡ (of s w).brief.pin
      → k.drafts ≡ (of s w).drafts → k.gone ≡ (of s w).gone
      → ((ns : List NodeId) → r ≡ Cut ns → ⊥) → ((n : NodeId) → r ≡ Freed n → ⊥) → Changed s w e r k
  keeps e r k ledgers unlabelled known pin drafts gone uncut unfreed = record {
    ledgers = Keeps ledgers unlabelled uncut unfreed;
    drafts = λ a. rw drafts a;
    known = same_known (of s w) k known pin;
    gone = gone;
  }

  -- what is known of nodes changes, under a pin
  reads : (e : Event) (r : Reply) (k : Knowledge) → (p : ℕ) × ((of s w).brief.pin ≡ Some p)
      → k.brief ≡ (of s w).brief → k.ledgers ≡ (of s w).ledgers → k.drafts ≡ (of s w).drafts → k.gone ≡ (of s w).gone
      → ((ns : List NodeId) → r ≡ Cut ns → ⊥) → ((n : NodeId) → r ≡ Freed n → ⊥) → Changed s w e r k
  reads e r k pin now ledgers drafts gone uncut unfreed = record {
    ledgers = Keeps ledgers (ap (λ b. b.unlabelled) now) uncut unfreed;
    drafts = λ a. rw drafts a;
    known = λ _ x _. (pin.0, ap (λ b. b.pin) now ∙ pin.1);
    gone = gone;
  }

  sight_changed : (e : Event) → Changed s w e (reply_sight (of s w) s.memory.epoch)
      (learn w (of s w) Sight (reply_sight (of s w) s.memory.epoch))
  sight_changed e = cond_both (of s w).brief.unlabelled (Labelled s.memory.epoch)
      (confirmed (of s w).brief.pin (of s w).brief.announcement s.memory.epoch)
      (λ r. Changed s w e r (learn w (of s w) Sight r))
      (λ _. rw (learn_labelled w (of s w) s.memory.epoch)
      (record { ledgers = Labels refl refl refl; drafts = λ a. a; known = λ o. o; gone = refl }))
      (λ _. by (of s w).brief.pin (of s w).brief.announcement)
    where
      by : (p n : Option ℕ) → Changed s w e (confirmed p n s.memory.epoch)
          (learn w (of s w) Sight (confirmed p n s.memory.epoch))
      by (Some p) n = rw (learn_saw w (of s w) s.memory.epoch)
          (keeps _ _ _ refl refl refl refl refl refl (λ ns h. cc) (λ n h. cc))
      by None None = rw (learn_saw w (of s w) s.memory.epoch)
          (keeps _ _ _ refl refl refl refl refl refl (λ ns h. cc) (λ n h. cc))
      by None (Some a) = cond_both (a == s.memory.epoch) (Pinned s.memory.epoch) (Missed s.memory.epoch)
          (λ r. Changed s w e r (learn w (of s w) Sight r))
          (λ _. rw (learn_pinned w (of s w) s.memory.epoch)
          (record {
            ledgers = Keeps refl refl (λ ns h. cc) (λ n h. cc);
            drafts = λ a. a;
            known = λ _ x _.
                (s.memory.epoch, refl);
            gone = refl;
          }))
          (λ _. rw (learn_missed w (of s w) s.memory.epoch)
          (keeps _ _ _ refl refl refl refl refl refl (λ ns h. cc) (λ n h. cc)))

  scan_changed : (u : ℕ) (n : Option ℕ) → Changed s w (Scan u) (reply_scan n) (learn w (of s w) (Scan u) (reply_scan n))
  scan_changed u None = rw (learn_idle w (of s w) u)
      (keeps _ _ _ refl refl refl refl refl refl (λ ns h. cc) (λ n h. cc))
  scan_changed u (Some e) = rw (learn_in w (of s w) u e)
      (keeps _ _ _ refl refl refl refl refl refl (λ ns h. cc) (λ n h. cc))

  look_changed : (x : ℕ) (f : Field) → (is_private (of s w) x ≡ false → (e : ℕ) × ((of s w).brief.pin ≡ Some e))
      → Changed s w (Look x f) (reply_look (node s.memory x) f)
      (learn w (of s w) (Look x f) (reply_look (node s.memory x) f))
  look_changed x f pin = rw (learn_look w (of s w) x f (reply_look (node s.memory x) f))
      (cond_both (is_private (of s w) x) (look_private (of s w) x f (reply_look (node s.memory x) f))
      (look_known (of s w) x f (reply_look (node s.memory x) f))
      (λ k. Changed s w (Look x f) (reply_look (node s.memory x) f) k)
      (λ _. own f) (λ out. others f (pin out)))
    where
      own : (g : Field) → Changed s w (Look x f) (reply_look (node s.memory x) g)
          (look_private (of s w) x g (reply_look (node s.memory x) g))
      own Key = keeps _ _ _ refl refl refl refl refl refl (λ ns h. cc) (λ n h. cc)
      own (EdgeOn d) = keeps _ _ _ refl refl refl refl refl refl (λ ns h. cc) (λ n h. cc)
      own Birth = record {
        ledgers = Keeps refl refl (λ ns h. cc) (λ n h. cc);
        drafts = λ a. ascends-put _ x _ a;
        known = λ o. o;
        gone = refl;
      }

      others : (g : Field) → (e : ℕ) × ((of s w).brief.pin ≡ Some e)
          → Changed s w (Look x f) (reply_look (node s.memory x) g)
          (look_known (of s w) x g (reply_look (node s.memory x) g))
      others Key pin = keeps _ _ _ refl refl refl refl refl refl (λ ns h. cc) (λ n h. cc)
      others (EdgeOn d) pin = reads _ _ _ pin refl refl refl refl (λ ns h. cc) (λ n h. cc)
      others Birth pin = reads _ _ _ pin refl refl refl refl (λ ns h. cc) (λ n h. cc)

  -- the node that a give frees stands at a front, and is ripe
  pub freeable : (x : ℕ) → refusal s.layout s.memory (of s w) w (Give x) ≡ None → is_private (of s w) x ≡ false
      → (e : Queued) × (front_of (of s w).ledgers x ≡ Some e) × Ripe (of s w).brief.seen e
  unfolding refusal
  freeable x ok out = by (front_of (of s w).ledgers x) refl fronted young
    where
      rest : first (free_checks (of s w) x) ≡ None
      rest = sym (ap (λ (c : Bool). first (cond c [] (free_checks (of s w) x))) out)
          ∙ (passed (outside 6 s.layout.nodes x) NoSlot _ ok).1

      c2 : Bool
      c2 = is_none (queued_entry (of s w).ledgers x)

      c3 : Bool
      c3 = is_none (of s w).brief.seen || has_no_label (queued_entry (of s w).ledgers x)

      c4 : Bool
      c4 = is_none (front_of (of s w).ledgers x)

      c5 : Bool
      c5 = is_young (front_of (of s w).ledgers x) (of s w).brief.seen

      ready : c3 ≡ false
      ready = second c2 c3 NotPrivate NotReady _ rest

      fronted : c4 ≡ false
      fronted = third c2 c3 c4 NotPrivate NotReady NotFront _ rest

      young : c5 ≡ false
      young = fourth c2 c3 c4 c5 NotPrivate NotReady NotFront TooYoung _ rest

      by : (o : Option Queued) → front_of (of s w).ledgers x ≡ o → is_none o ≡ false
          → is_young o (of s w).brief.seen ≡ false → (e : Queued) × (front_of (of s w).ledgers x ≡ Some e)
          × Ripe (of s w).brief.seen e
      by None is h y = absurd (true≢false h)
      by (Some e) is h y = (e, is, go (of s w).brief.seen e.label refl refl parts.0 labelled y)
        where
          parts : (is_none (of s w).brief.seen ≡ false) × (has_no_label (queued_entry (of s w).ledgers x) ≡ false)
          parts = or_parts (is_none (of s w).brief.seen) (has_no_label (queued_entry (of s w).ledgers x)) ready

          labelled : is_none e.label ≡ false
          labelled = sym (ap has_no_label (entry_is_front (of s w).ledgers x e is)) ∙ parts.1

          go : (seen l : Option ℕ) → (of s w).brief.seen ≡ seen → e.label ≡ l → is_none seen ≡ false
              → is_none l ≡ false → nat_lt (unwrap_or seen 0) (unwrap_or l 0 + 2) ≡ false → Ripe (of s w).brief.seen e
          go None l i j h k y = absurd (true≢false h)
          go (Some n) None i j h k y = absurd (true≢false k)
          go (Some n) (Some l) i j h k y = record {
            label = l;
            is_labelled = j;
            epoch = n;
            is_seen = i;
            old =
                ltb-false n (l + 2) y;
          }

  give_frees : (x : ℕ) → refusal s.layout s.memory (of s w) w (Give x) ≡ None → is_private (of s w) x ≡ false
      → Changed s w (Give x) (Freed (node_of (front_of (of s w).ledgers x)))
      (learn w (of s w) (Give x) (Freed (node_of (front_of (of s w).ledgers x))))
  give_frees x ok out =
      let f = freeable x ok out in
      rw (learn_freed w (of s w) x (node_of (front_of (of s w).ledgers x))) (rw f.1 (record {
        ledgers = Frees x f.0 (front (of s w).ledgers x f.0 f.0.node (front_slot (of s w).ledgers x f.0 f.1) f.1) f.2
            refl refl refl refl;
        drafts = λ a. a;
        known = λ o. o;
        gone = refl;
      }))

  pub changed : (e : Event) → Allowed s w e → ((v : ℕ) → e ≡ Join v → ⊥)
      → Changed s w e (reply_of s w e) (learn w (of s w) e (reply_of s w e))
  unfolding refusal reply
  changed e ok alone = go e ok.event alone
    where
      go : (e : Event) → refusal_of s w e ≡ None → ((v : ℕ) → e ≡ Join v → ⊥)
          → Changed s w e (reply_of s w e) (learn w (of s w) e (reply_of s w e))
      go Sight ok alone = sight_changed Sight
      go (SightFor op key) ok alone = rw (learn_sight_for w (of s w) op key (reply_sight (of s w) s.memory.epoch))
          (sight_changed (SightFor op key))
      go Announce ok alone = rw (learn_announced w (of s w) (unwrap_or (of s w).brief.seen 0))
          (keeps _ _ _ refl refl refl refl refl refl (λ ns h. cc) (λ n h. cc))
      go Leave ok alone = rw (learn_departed w (of s w))
          (record {
            ledgers = Keeps refl refl (λ ns h. cc) (λ n h. cc);
            drafts = λ a. a;
            known = λ _ x h. absurd
                (true≢false (sym h));
            gone = refl;
          })
      go (LeaveWith answer) ok alone = rw (learn_leave_with w (of s w) answer, learn_departed w (of s w))
          (record {
            ledgers = Keeps refl refl (λ ns h. cc) (λ n h. cc);
            drafts = λ a. a;
            known = λ _ x h. absurd
                (true≢false (sym h));
            gone = refl;
          })
      go (Scan u) ok alone = scan_changed u (announcement s.memory u)
      go Advance ok alone = cond_both (is_number (of s w).brief.seen s.memory.epoch) (Moved (s.memory.epoch + 1))
          (Behind s.memory.epoch) (λ r. Changed s w Advance r (learn w (of s w) Advance r))
          (λ _. rw (learn_moved w (of s w) (s.memory.epoch + 1))
          (keeps _ _ _ refl refl refl refl refl refl (λ ns h. cc) (λ n h. cc)))
          (λ _. rw (learn_behind w (of s w) s.memory.epoch)
          (keeps _ _ _ refl refl refl refl refl refl (λ ns h. cc) (λ n h. cc)))
      go (Claim x) ok alone = cond_both (in_pool s.memory x) (Claimed x) Taken
          (λ r. Changed s w (Claim x) r (learn w (of s w) (Claim x) r))
          (λ _. rw (learn_claimed w (of s w) x x) (record {
            ledgers = Keeps refl refl (λ ns h. cc) (λ n h. cc);
            drafts = λ a. ascends-put _ x _ a;
            known = λ o. o;
            gone = refl;
          }))
          (λ _. rw (learn_taken w (of s w) x) (keeps _ _ _ refl refl refl refl refl refl (λ ns h. cc) (λ n h. cc)))
      go (Give x) ok alone = cond_both (is_private (of s w) x) (Returned x)
          (Freed (node_of (front_of (of s w).ledgers x))) (λ r. Changed s w (Give x) r (learn w (of s w) (Give x) r))
          (λ _. rw (learn_returned w (of s w) x x) (record {
            ledgers = Keeps refl refl (λ ns h. cc) (λ n h. cc);
            drafts = λ a. ascends-without _ x a;
            known = λ o.
                o;
            gone = refl;
          }))
          (λ out. give_frees x ok out)
      go (Look x f) ok alone = look_changed x f (λ out. has_pin (of s w).brief.pin
          (sym (ap (λ (b : Bool). not b && is_none (of s w).brief.pin) out)
          ∙ second (outside 1 s.layout.nodes x) (not (is_private (of s w) x) && is_none (of s w).brief.pin) NoSlot
          NotPinned _ ok))
      go (Fill x f v) ok alone = rw (learn_filled w (of s w) x f v)
          (record {
            ledgers = Keeps refl refl (λ ns h. cc) (λ n h. cc);
            drafts = λ a. ascends-put _ x _ a;
            known = λ o.
                o;
            gone = refl;
          })
      go (Link p d leaf new) ok alone =
          let pin = has_pin (of s w).brief.pin (second
          (outside 1 s.layout.nodes p || (outside 1 s.layout.nodes leaf || outside 6 s.layout.nodes new))
          (is_none (of s w).brief.pin) NoSlot NotPinned _ ok) in
          cond_both (is_to (edge s.memory p d) leaf) (Linked (node_linked (of s w) new)) (Lost (edge s.memory p d))
          (λ r. Changed s w (Link p d leaf new) r (learn w (of s w) (Link p d leaf new) r))
          (λ _. rw (learn_linked w (of s w) p d leaf new (node_linked (of s w) new))
          (record {
            ledgers = Keeps refl refl (λ ns h. cc) (λ n h. cc);
            drafts = λ a. ascends-without _ _
                (ascends-without _ new a);
            known = λ _ x _. pin;
            gone = refl;
          }))
          (λ _. rw (learn_link_lost w (of s w) p d leaf new (edge s.memory p d))
          (reads _ _ _ pin refl refl refl refl (λ ns h. cc) (λ n h. cc)))
      go (Flag p d leaf) ok alone =
          let pin = has_pin (of s w).brief.pin (second (outside 1 s.layout.nodes p || outside 6 s.layout.nodes leaf)
          (is_none (of s w).brief.pin) NoSlot NotPinned _ ok) in
          cond_both (is_to (edge s.memory p d) leaf) (Flagged (named s.memory leaf)) (Lost (edge s.memory p d))
          (λ r. Changed s w (Flag p d leaf) r (learn w (of s w) (Flag p d leaf) r))
          (λ _. rw (learn_flagged w (of s w) p d leaf (named s.memory leaf))
          (reads _ _ _ pin refl refl refl refl (λ ns h. cc) (λ n h. cc)))
          (λ _. rw (learn_flag_lost w (of s w) p d leaf (edge s.memory p d))
          (reads _ _ _ pin refl refl refl refl (λ ns h. cc) (λ n h. cc)))
      go (Tag p d) ok alone =
          let pin = has_pin (of s w).brief.pin (second (outside 1 s.layout.nodes p) (is_none (of s w).brief.pin)
          NoSlot NotPinned _ ok) in
          rw (learn_was w (of s w) p d (edge s.memory p d))
          (reads _ _ _ pin refl refl refl refl (λ ns h. cc) (λ n h. cc))
      go (Splice a d x p keep) ok alone =
          let pin = has_pin (of s w).brief.pin (second
          (outside 1 s.layout.nodes a || (outside 6 s.layout.nodes x || outside 6 s.layout.nodes p))
          (is_none (of s w).brief.pin) NoSlot NotPinned _ ok) in
          cond_both (is_to (edge s.memory a d) x) (Cut (cut_nodes s.layout s.memory (of s w) x p keep))
          (Lost (edge s.memory a d)) (λ r. Changed s w (Splice a d x p keep) r
          (learn w (of s w) (Splice a d x p keep) r))
          (λ won. rw (learn_cut w (of s w) a d x p keep (cut_nodes s.layout s.memory (of s w) x p keep))
          (record {
            ledgers = Cuts _ refl refl refl
                (inl (record {
                  ancestor = a;
                  side = d;
                  successor = x;
                  parent = p;
                  keep = keep;
                  is = refl;
                  won = won;
                  nodes = refl;
                }));
            drafts = λ d. d;
            known = λ _ x _. pin;
            gone = refl;
          }))
          (λ _. rw (learn_splice_lost w (of s w) a d x p keep (edge s.memory a d))
          (reads _ _ _ pin refl refl refl refl (λ ns h. cc) (λ n h. cc)))
      go (Swap p d leaf new) ok alone =
          let pin = has_pin (of s w).brief.pin
          (second (outside 1 s.layout.nodes p || (outside 6 s.layout.nodes leaf || outside 6 s.layout.nodes new))
          (is_none (of s w).brief.pin) NoSlot NotPinned _ ok) in
          cond_both (is_to (edge s.memory p d) leaf) (Cut (named s.memory leaf ∷ [])) (Lost (edge s.memory p d))
          (λ r. Changed s w (Swap p d leaf new) r (learn w (of s w) (Swap p d leaf new) r))
          (λ won. rw (learn_swapped w (of s w) p d leaf new (named s.memory leaf ∷ []))
          (record {
            ledgers = Cuts _ refl refl refl
                (inr (record { parent = p; side = d; leaf = leaf; new = new; is = refl; won = won; nodes = refl }));
            drafts = λ a. ascends-without _ new a;
            known = λ _ x _. pin;
            gone = refl;
          }))
          (λ _. rw (learn_swap_lost w (of s w) p d leaf new (edge s.memory p d))
          (reads _ _ _ pin refl refl refl refl (λ ns h. cc) (λ n h. cc)))
      go (Join v) ok alone = absurd (alone v refl)
