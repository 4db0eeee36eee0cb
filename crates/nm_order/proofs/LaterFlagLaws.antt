-- In every ordered run, the walks after a won flag come to its leaf by flagged edges.
use Rattle.std.proofs.Common.{◌≡◌, ℕ, Bool, true, false, List, [], replicate, refl, sym, ap, subst, ◌∙◌, arith, get_or-set_same, get_or-set_other}
use Rattle.std.specs.Prelude.{Some, None}
use native.Mathlib.Decide.{ℕ_discrete}
use Rattle.std.proofs.lemmas.Option.{none-some, same_Some, slice_get-get_or}
use Rattle.nm_edge.specs.Layouts.{Layout}
use Rattle.nm_edge.specs.declared.edge.Side.{Side}
use Rattle.nm_edge.specs.declared.node.NodeId.{NodeId}
use Rattle.nm_model.specs.declared.event.Field.{Field}
use Rattle.nm_model.specs.declared.event.Event.{Event}
use Rattle.nm_model.specs.declared.event.Event.TheVariants.{Look, Flag}
use Rattle.nm_model.specs.declared.reply.Reply.{Reply}
use Rattle.nm_model.specs.declared.reply.Reply.TheVariants.{Flagged}
use Rattle.nm_model.specs.Knowledge.{Knowledge, read}
use Rattle.nm_model.specs.Runs.{State, of, start, reply_of, applied}
use Rattle.nm_model.specs.Searches.{Search, idle, searched, look_for}
use Rattle.nm_model.specs.Walks.{Entry, begins_anew, search_after}
use Rattle.nm_model.specs.Ordered.{ordered, search_of, disorder, after_in}
use Rattle.nm_model.proofs.Numbers.{repeated}
use Rattle.nm_laws.proofs.Steps.{Allowed}
use Rattle.nm_laws.proofs.TreeSteps.{Lawful}
use Rattle.nm_order.specs.Logs.{known_by}
use Rattle.nm_order.specs.Facts.{Holds, LaterWalksFindTheFlag}
use Rattle.nm_order.specs.Facts.Since.{TheFlag}
use Rattle.nm_order.specs.Facts.Fact.{IsFlagged}
use Rattle.nm_order.proofs.OrderedInduction.{IsKept, each_run_keeps}
use Rattle.nm_order.proofs.LastEntries.{ToldBy, told_by_part}
use Rattle.nm_order.proofs.KnowledgeStays.{Stays, learned_stays, answers}
use Rattle.nm_order.proofs.CallWalks.{GoesOn, goes_on_so, begun_anew, others_stay, own_knows}
use Rattle.nm_order.proofs.CallWalks.GoesOn.{Same, Looked}
use Rattle.nm_order.proofs.FlaggedLeaves.{FlagStep, flag_step, anew_unflagged}
use Rattle.nm_order.proofs.FlaggedLeaves.FlagStep.{SameFlag, NewFlag}
use Rattle.nm_order.proofs.LaterFlags.{LeafFlagged, FlagKept, unflagged, kept_still, new_flag, look_flags}
use Rattle.nm_order.proofs.OwnLinks.{first_flag}

-- ---- one event of the worker itself

module _ (s : State) (h : ℕ → ℕ) (law : Lawful s h) (w : ℕ) (S : Search) (kept : FlagKept s.memory (of s w) S) where
  -- it flags a leaf
  own_flag : (e : Event) (r : Reply) (T : Search) → Stays s.memory (of s w) (of (applied s w e) w) → Allowed s w e
      → reply_of s w e ≡ r → disorder s.layout (of s w) S e ≡ None → (p leaf : ℕ) (d : Side) (n : NodeId)
      → e ≡ Flag p d leaf → r ≡ Flagged n → T.flagged ≡ Some n → T.later ≡ S.later
      → FlagKept (applied s w e).memory (of (applied s w e) w) T
  own_flag e r T stays ok told ordered p leaf d n is_flag is_flagged flagged later = record {
    none = λ none. absurd (none-some n (sym none ∙ flagged));
    some = λ n' is. subst (λ (y : NodeId). LeafFlagged (applied s w e).memory (of (applied s w e) w) T.later y.slot)
        (same_Some n n' (sym flagged ∙ is)) (rw (later, kept.none first) (led e is_flag ok (told ∙ is_flagged) stays));
  }
    where
      first : S.flagged ≡ None
      first = first_flag s.layout (of s w) S p leaf d
          (subst (λ (x : Event). disorder s.layout (of s w) S x ≡ None) is_flag ordered)

      led : (e : Event) → e ≡ Flag p d leaf → Allowed s w e → reply_of s w e ≡ Flagged n
          → Stays s.memory (of s w) (of (applied s w e) w)
          → LeafFlagged (applied s w e).memory (of (applied s w e) w) [] n.slot
      led e is = subst (λ (x : Event). Allowed s w x → reply_of s w x ≡ Flagged n
          → Stays s.memory (of s w) (of (applied s w x) w)
          → LeafFlagged (applied s w x).memory (of (applied s w x) w) [] n.slot) (sym is)
          (λ ok told stays. new_flag s h law w p leaf d n ok told (of (applied s w (Flag p d leaf)) w) stays)

  -- it looks
  own_look : (e : Event) (T : Search) → Stays s.memory (of s w) (of (applied s w e) w) → Allowed s w e
      → (x : ℕ) (f : Field) → e ≡ Look x f → T ≡ look_for S S.call x f (reply_of s w e)
      → FlagKept (applied s w e).memory (of (applied s w e) w) T
  own_look e T stays ok x f is becomes = rw becomes (go e is stays ok)
    where
      go : (e : Event) → e ≡ Look x f → Stays s.memory (of s w) (of (applied s w e) w) → Allowed s w e
          → FlagKept (applied s w e).memory (of (applied s w e) w) (look_for S S.call x f (reply_of s w e))
      go e is = subst (λ (y : Event). Stays s.memory (of s w) (of (applied s w y) w) → Allowed s w y
          → FlagKept (applied s w y).memory (of (applied s w y) w) (look_for S S.call x f (reply_of s w y))) (sym is)
          (λ stays ok. look_flags s h law w x f ok stays S kept)

  own_step : (e : Event) → Allowed s w e → disorder s.layout (of s w) S e ≡ None
      → FlagKept (applied s w e).memory (of (applied s w e) w) (searched S e (reply_of s w e))
  own_step e ok ordered = go (begins_anew (e, reply_of s w e)) refl
    where
      go : (b : Bool) → begins_anew (e, reply_of s w e) ≡ b
          → FlagKept (applied s w e).memory (of (applied s w e) w) (searched S e (reply_of s w e))
      go true anew = unflagged (applied s w e).memory (of (applied s w e) w) (searched S e (reply_of s w e))
          (anew_unflagged S e (reply_of s w e) anew) (begun_anew S e (reply_of s w e) anew TheFlag)
      go false stands = by (flag_step S e (reply_of s w e) stands)
        where
          stays : Stays s.memory (of s w) (of (applied s w e) w)
          stays = subst (Stays s.memory (of s w)) (sym (own_knows s h law w e ok))
              (learned_stays s.memory (of s w) w e (reply_of s w e) (answers s h law w e ok) stands)

          on : GoesOn S e (reply_of s w e) (searched S e (reply_of s w e))
              → (searched S e (reply_of s w e)).flagged ≡ S.flagged
              → FlagKept (applied s w e).memory (of (applied s w e) w) (searched S e (reply_of s w e))
          on (Same call walks later) flagged = kept_still s h law w e ok w (of (applied s w e) w) stays S
              (searched S e (reply_of s w e)) flagged later kept
          on (Looked x f is becomes) flagged = own_look e (searched S e (reply_of s w e)) stays ok x f is becomes

          by : FlagStep S e (reply_of s w e) (searched S e (reply_of s w e))
              → FlagKept (applied s w e).memory (of (applied s w e) w) (searched S e (reply_of s w e))
          by (SameFlag flagged) = on (goes_on_so S e (reply_of s w e) stands) flagged
          by (NewFlag p leaf d n is_flag is_flagged flagged later) = own_flag e (reply_of s w e)
              (searched S e (reply_of s w e)) stays ok refl ordered p leaf d n is_flag is_flagged flagged later

-- ---- every ordered run

abbrev pub EachFlagKept : State → List Search → Type 0
EachFlagKept s ss = (u : ℕ) → FlagKept s.memory (of s u) (search_of ss u)

pub flags_step : IsKept EachFlagKept
flags_step s h law w births ss l kept e ok ordered has u = elim (ℕ_discrete u w) [
  | yes is ↦ rw (
    is,
    get_or-set_same ss w (searched (search_of ss w) e (reply_of s w e)) idle
        (let size = l.sized in let lt = ok.worker in omega arith),
  )
      (own_step s h law w (search_of ss w) (kept w) e ok ordered)
  | no ne ↦ rw (get_or-set_other ss w u (searched (search_of ss w) e (reply_of s w e)) idle ne)
      (kept_still s h law w e ok u (of (applied s w e) u) (others_stay s h law w e ok u ne) (search_of ss u)
      (search_of ss u) refl refl (kept u))
]

pub flags_start : (L : Layout) → EachFlagKept (start L) (replicate L.workers idle)
flags_start L u = rw (repeated L.workers u idle) (unflagged (start L).memory (of (start L) u) idle refl refl)

pub later_walks_find : LaterWalksFindTheFlag
later_walks_find L enough w log l n k p d flagged came = by told
  where
    told : ToldBy L w log (after_in (ordered L) l.turns)
    told = subst (λ (log : List Entry). ToldBy L w log (after_in (ordered L) l.turns)) l.is_part
        (told_by_part L enough w l.worker l.turns l.keys)

    by : ToldBy L w log (after_in (ordered L) l.turns) → Holds L w log (IsFlagged p d n.slot)
    by t =
        let kept : FlagKept (after_in (ordered L) l.turns).state.memory (known_by L w log) (search_after idle log) =
        subst (λ (known : Knowledge). FlagKept (after_in (ordered L) l.turns).state.memory known
        (search_after idle log)) t.knows
        (subst (λ (S : Search). FlagKept (after_in (ordered L) l.turns).state.memory
        (of (after_in (ordered L) l.turns).state w) S) t.search
        (each_run_keeps EachFlagKept flags_step L enough (flags_start L) l.turns l.keys t.is_ordered.searches
        t.is_ordered.are w)) in
        let leaf = kept.some n flagged in
        let place = leaf.places came.among.0 came.arrival
        (slice_get-get_or (search_after idle log).later came.among.0 came.arrival came.among.1
        ∙ ap Some came.among.2) in
        let r = place.here came.is_slot in (
          r.0,
          subst (λ (y : ℕ). read (known_by L w log) y d ≡ Some r.0) came.is_parent
              (subst (λ (f : Side). read (known_by L w log) came.arrival.parent f ≡ Some r.0) came.is_side r.1),
          r.2,
          r.3,
        )
