-- The rows of the table `learn`, one by one. Proofs cite these, and leave the table itself closed.
use Rattle.std.proofs.Common.{◌≡◌, ℕ, ◌==◌, Bool, true, List, cond, refl}
use Rattle.std.specs.Prelude.{Option, Some}
use Rattle.std.proofs.lemmas.Bool.{cond_both}
use Rattle.nm_edge.specs.Edges.{Edge, tagged}
use Rattle.nm_edge.specs.declared.edge.Side.{Side}
use Rattle.nm_edge.specs.declared.node.NodeId.{NodeId}
use Rattle.nm_model.specs.declared.event.Field.{Field}
use Rattle.nm_model.specs.declared.event.Field.TheVariants.{Edge as EdgeOn, Birth}
use Rattle.nm_model.specs.declared.event.Event.TheVariants.{Sight, SightFor, Announce, Leave, LeaveWith, Scan, Advance, Claim, Give, Look, Fill, Link, Flag, Tag, Splice, Swap, Join}
use Rattle.nm_model.specs.declared.event.Op.{Op}
use Rattle.nm_model.specs.declared.reply.Reply.{Reply}
use Rattle.nm_model.specs.declared.reply.Reply.TheVariants.{Saw, Labelled, Pinned, Missed, Announced, Departed, Idle, In, Moved, Behind, Claimed, Taken, Returned, Freed, Filled, Linked, Flagged, Was, Cut, Lost, Joined, BirthIs, EdgeIs}
use Rattle.nm_model.specs.declared.ledger.Ledger.{Ledger}
use Rattle.nm_model.specs.Maps.{put, without, is_number}
use Rattle.nm_model.specs.Ledgers.{free}
use Rattle.nm_model.specs.Knowledge.{Knowledge, unfilled, is_private, draft_of}
use Rattle.nm_model.specs.Learning.{learn, saw, labelling, pinned, departed, scanned, moved, read_edge, look_known, look_private, filled_in, linked_in, swapped_in, flag_to, cutting, inheriting, resigned, learn_sight, learn_scan, looked}

-- ---- what a sight, a scan and a look may change

pub sight_teaches : (k : Knowledge) (r : Reply) → learn_sight k r
    ≡ record k {
      brief = (learn_sight k r).brief;
      scanned = (learn_sight k r).scanned;
      known =
          (learn_sight k r).known;
      ledgers = (learn_sight k r).ledgers;
    }
sight_teaches k (Saw e) = refl
sight_teaches k (Labelled e) = refl
sight_teaches k (Pinned e) = refl
sight_teaches k (Missed e) = refl
sight_teaches k _ = refl

pub scan_teaches : (k : Knowledge) (u : ℕ) (r : Reply)
    → learn_scan k u r ≡ record k { scanned = (learn_scan k u r).scanned }
scan_teaches k u Idle = refl
scan_teaches k u (In e) = refl
scan_teaches k u _ = refl

pub look_teaches : (k : Knowledge) (s : ℕ) (f : Field) (r : Reply)
    → looked k s f r ≡ record k { known = (looked k s f r).known; drafts = (looked k s f r).drafts }
look_teaches k s f r = cond_both (is_private k s) (look_private k s f r) (look_known k s f r)
    (λ (l : Knowledge). l ≡ record k { known = l.known; drafts = l.drafts })
    (λ _. own f r) (λ _. shared f r)
  where
    own : (f : Field) (r : Reply) → look_private k s f r
        ≡ record k { known = (look_private k s f r).known; drafts = (look_private k s f r).drafts }
    own Birth (BirthIs b) = refl
    own _ _ = refl

    shared : (f : Field) (r : Reply) → look_known k s f r
        ≡ record k { known = (look_known k s f r).known; drafts = (look_known k s f r).drafts }
    shared (EdgeOn side) (EdgeIs e) = refl
    shared Birth (BirthIs b) = refl
    shared _ _ = refl

-- ---- the rows

module _ (w : ℕ) (k : Knowledge) where
  pub learn_saw : (e : ℕ) → learn w k Sight (Saw e) ≡ saw k e
  unfolding learn
  learn_saw e = refl

  pub learn_labelled : (e : ℕ) → learn w k Sight (Labelled e) ≡ labelling (saw k e) e
  unfolding learn
  learn_labelled e = refl

  pub learn_pinned : (e : ℕ) → learn w k Sight (Pinned e) ≡ pinned (saw k e) e
  unfolding learn
  learn_pinned e = refl

  pub learn_missed : (e : ℕ) → learn w k Sight (Missed e) ≡ saw k e
  unfolding learn
  learn_missed e = refl

  pub learn_announced : (e : ℕ) → learn w k Announce (Announced e)
      ≡ record k { brief = record k.brief { announcement = Some e } }
  unfolding learn
  learn_announced e = refl

  pub learn_departed : learn w k Leave Departed ≡ departed k
  unfolding learn
  learn_departed = refl

  -- a sight for an operation teaches what a sight does, and a leave with an answer what a leave
  -- does
  pub learn_sight_for : (op : Op) (key : ℕ) (r : Reply) → learn w k (SightFor op key) r ≡ learn w k Sight r
  unfolding learn
  learn_sight_for op key r = refl

  pub learn_leave_with : (answer : Bool) → learn w k (LeaveWith answer) Departed ≡ learn w k Leave Departed
  unfolding learn
  learn_leave_with answer = refl

  pub learn_idle : (u : ℕ) → learn w k (Scan u) Idle ≡ scanned k u true
  unfolding learn
  learn_idle u = refl

  pub learn_in : (u e : ℕ) → learn w k (Scan u) (In e) ≡ scanned k u (is_number k.brief.seen e)
  unfolding learn
  learn_in u e = refl

  pub learn_moved : (e : ℕ) → learn w k Advance (Moved e) ≡ moved k e
  unfolding learn
  learn_moved e = refl

  pub learn_behind : (e : ℕ) → learn w k Advance (Behind e) ≡ moved k e
  unfolding learn
  learn_behind e = refl

  pub learn_claimed : (s t : ℕ) → learn w k (Claim s) (Claimed t) ≡ record k { drafts = put k.drafts s unfilled }
  unfolding learn
  learn_claimed s t = refl

  pub learn_taken : (s : ℕ) → learn w k (Claim s) Taken ≡ k
  unfolding learn
  learn_taken s = refl

  pub learn_returned : (s t : ℕ) → learn w k (Give s) (Returned t) ≡ record k { drafts = without k.drafts s }
  unfolding learn
  learn_returned s t = refl

  pub learn_freed : (s : ℕ) (n : NodeId) → learn w k (Give s) (Freed n) ≡ record k { ledgers = free k.ledgers n }
  unfolding learn
  learn_freed s n = refl

  pub learn_look : (s : ℕ) (f : Field) (r : Reply)
      → learn w k (Look s f) r ≡ cond (is_private k s) (look_private k s f r) (look_known k s f r)
  unfolding learn
  learn_look s f r = refl

  pub learn_filled : (s : ℕ) (f : Field) (v : ℕ) → learn w k (Fill s f v) Filled
      ≡ record k { drafts = put k.drafts s (filled_in (draft_of k s) f v) }
  unfolding learn
  learn_filled s f v = refl

  pub learn_linked : (p : ℕ) (side : Side) (leaf new : ℕ) (n : NodeId)
      → learn w k (Link p side leaf new) (Linked n) ≡ linked_in k leaf new
  unfolding learn
  learn_linked p side leaf new n = refl

  pub learn_link_lost : (p : ℕ) (side : Side) (leaf new : ℕ) (e : Edge)
      → learn w k (Link p side leaf new) (Lost e) ≡ read_edge k p side e
  unfolding learn
  learn_link_lost p side leaf new e = refl

  pub learn_flagged : (p : ℕ) (side : Side) (leaf : ℕ) (n : NodeId)
      → learn w k (Flag p side leaf) (Flagged n) ≡ read_edge k p side (flag_to leaf)
  unfolding learn
  learn_flagged p side leaf n = refl

  pub learn_flag_lost : (p : ℕ) (side : Side) (leaf : ℕ) (e : Edge)
      → learn w k (Flag p side leaf) (Lost e) ≡ read_edge k p side e
  unfolding learn
  learn_flag_lost p side leaf e = refl

  pub learn_was : (p : ℕ) (side : Side) (e : Edge) → learn w k (Tag p side) (Was e) ≡ read_edge k p side (tagged e)
  unfolding learn
  learn_was p side e = refl

  pub learn_cut : (a : ℕ) (side : Side) (s p : ℕ) (keep : Side) (ns : List NodeId)
      → learn w k (Splice a side s p keep) (Cut ns) ≡ cutting w k ns
  unfolding learn
  learn_cut a side s p keep ns = refl

  pub learn_splice_lost : (a : ℕ) (side : Side) (s p : ℕ) (keep : Side) (e : Edge)
      → learn w k (Splice a side s p keep) (Lost e) ≡ read_edge k a side e
  unfolding learn
  learn_splice_lost a side s p keep e = refl

  pub learn_swapped : (p : ℕ) (side : Side) (leaf new : ℕ) (ns : List NodeId)
      → learn w k (Swap p side leaf new) (Cut ns) ≡ cutting w (swapped_in k new) ns
  unfolding learn
  learn_swapped p side leaf new ns = refl

  pub learn_swap_lost : (p : ℕ) (side : Side) (leaf new : ℕ) (e : Edge)
      → learn w k (Swap p side leaf new) (Lost e) ≡ read_edge k p side e
  unfolding learn
  learn_swap_lost p side leaf new e = refl

  pub learn_joined : (v : ℕ) (ls : List (Option Ledger))
      → learn w k (Join v) (Joined ls) ≡ cond (w == v) (resigned k) (inheriting k ls)
  unfolding learn
  learn_joined v ls = refl
