-- One event: an ordered core refuses a second flag of a call, so its flag stays, and the arrivals
-- behind it only grow.
use Rattle.std.proofs.Common.{◌≡◌, ℕ, Bool, true, false, List, true≢false, refl, sym, ap, subst, ◌∙◌, Result, Ok}
use Rattle.std.specs.Prelude.{Option, Some, None, Contains}
use Rattle.std.proofs.lemmas.Option.{none-some}
use Rattle.nm_edge.specs.declared.edge.Side.{Side}
use Rattle.nm_edge.specs.declared.node.NodeId.{NodeId}
use Rattle.nm_model.specs.declared.event.Event.{Event}
use Rattle.nm_model.specs.declared.event.Event.TheVariants.{Sight, SightFor, Leave, LeaveWith, Look, Link, Flag, Splice, Swap}
use Rattle.nm_model.specs.declared.event.Field.{Field}
use Rattle.nm_model.specs.declared.reply.Reply.{Reply}
use Rattle.nm_model.specs.declared.reply.Reply.TheVariants.{Pinned, Departed, Linked, Flagged, Cut}
use Rattle.nm_model.specs.declared.reply.Refused.{Refused}
use Rattle.nm_model.specs.declared.arrivals.Call.{Call}
use Rattle.nm_model.specs.declared.arrivals.Arrival.{Arrival}
use Rattle.nm_model.specs.Maps.{or_else}
use Rattle.nm_model.specs.Runs.{of, refused, reply_of, answered}
use Rattle.nm_model.specs.Searches.{Search, searched, look_for}
use Rattle.nm_model.specs.Walks.{Entry, GrowsTo, begins_anew}
use Rattle.nm_model.specs.Ordered.{Configuration, search_of, disorder, disorder_in, disorder_among, refused_in, outcome_in}
use Rattle.nm_laws.proofs.Outcomes.{no_reply}
use Rattle.nm_laws.proofs.SearchesGrow.{look_beside, search_goes, same_arrival}
use Rattle.nm_order.specs.WalksToArrivals.{is_won_flag}
use Rattle.nm_order.specs.FlagsOfCalls.{FlagsStay, LaterArrivalsOnlyGrow}
use Rattle.nm_order.proofs.ArrivalsOfLooks.{grows_by}
use Rattle.nm_order.proofs.OwnLinks.{IsFlagEntry, flag_entry, first_flag as first_of_call}

-- ---- a second flag is refused

neither : (a b : Option Refused) → or_else a b ≡ None → b ≡ None
neither None b h = h
neither (Some r) b h = absurd (none-some r (sym h))

-- a flag is allowed only where its call has none
flag_allowed : (c : Configuration) (searches : List Search) → c.searches ≡ Some searches
    → (w p : ℕ) (side : Side) (leaf : ℕ) → refused_in c w (Flag p side leaf) ≡ None
    → (search_of searches w).flagged ≡ None
unfolding refused_in
flag_allowed c searches are w p side leaf allowed =
    let s : Search = search_of searches w in
    let in_order : disorder c.state.layout (of c.state w) s (Flag p side leaf)
    ≡ None = ap (λ ss. disorder_among c.state.layout ss (of c.state w) w (Flag p side leaf)) (sym are)
    ∙ neither (refused c.state w (Flag p side leaf)) (disorder_in c w (Flag p side leaf)) allowed in
    first_of_call c.state.layout (of c.state w) s p leaf side in_order

-- ---- one event

-- the flag that an entry leaves
abbrev pub flag_by : Option NodeId → Entry → Option NodeId
flag_by o (Flag p side leaf, Flagged n) = Some n
flag_by o _ = o

pub flag_added : (s : Search) (e : Event) (r : Reply) → begins_anew (e, r) ≡ false
    → (searched s e r).flagged ≡ flag_by s.flagged (e, r)
unfolding searched
flag_added s Sight (Pinned n) stands = absurd (true≢false stands)
flag_added s (SightFor op key) (Pinned n) stands = absurd (true≢false stands)
flag_added s Leave Departed stands = absurd (true≢false stands)
flag_added s (LeaveWith answer) Departed stands = absurd (true≢false stands)
flag_added s (Look slot f) r stands = ap (λ (t : Search). t.flagged) (look_beside s s.call slot f r)
flag_added s (Link p side leaf new) (Linked n) stands = refl
flag_added s (Flag p side leaf) (Flagged n) stands = refl
flag_added s (Splice a side x p keep) (Cut ns) stands = refl
flag_added s (Swap p side leaf new) (Cut ns) stands = refl
flag_added s e r stands = refl

pub kept_flag : (o : Option NodeId) (e : Event) (r : Reply) → is_won_flag (e, r) ≡ false → flag_by o (e, r) ≡ o
kept_flag o (Flag p side leaf) (Flagged n) is = absurd (true≢false is)
kept_flag o e r is = refl

-- a won flag is allowed only where there was none
pub first_flag : (c : Configuration) (searches : List Search) → c.searches ≡ Some searches
    → (w : ℕ) (e : Event) (r : Reply) → refused_in c w e ≡ None → is_won_flag (e, r) ≡ true
    → (search_of searches w).flagged ≡ None
first_flag c searches are w e r allowed won =
    let f : IsFlagEntry e r = flag_entry e r won in
    flag_allowed c searches are w f.parent f.side f.leaf
    (subst (λ (x : Event). refused_in c w x ≡ None) f.is_event allowed)

pub flags_stay : FlagsStay
unfolding outcome_in
flags_stay c searches are w e r answers stands n has = flag_added (search_of searches w) e r stands
    ∙ by (is_won_flag (e, r)) refl
  where
    allowed : (o : Option Refused) → refused_in c w e ≡ o
        → ◌≡◌ {A = Result Reply Refused} (answered o (reply_of c.state w e)) (Ok r) → refused_in c w e ≡ None
    allowed None is told = is
    allowed (Some x) is told = absurd (no_reply x r told)

    by : (b : Bool) → is_won_flag (e, r) ≡ b → flag_by (search_of searches w).flagged (e, r) ≡ Some n
    by true won = absurd (none-some n (sym (first_flag c searches are w e r (allowed (refused_in c w e) refl answers)
        won) ∙ has))
    by false not_won = kept_flag (search_of searches w).flagged e r not_won ∙ has

-- ---- later arrivals

later_look : (s : Search) (slot : ℕ) (f : Field) (r : Reply) (call : Option Call) (flag : Option NodeId)
    → s.flagged ≡ flag → (a : Arrival) → Contains s.later a
    → (b : Arrival) × Contains (look_for s call slot f r).later b × GrowsTo a b
later_look s slot f r None flag is a there = (a, there, same_arrival a)
later_look s slot f r (Some call) None is a there = rw is (a, there, same_arrival a)
later_look s slot f r (Some call) (Some n) is a there = rw is (grows_by call.key s.later (Look slot f, r) a there)

pub later_grows : LaterArrivalsOnlyGrow
later_grows s = search_goes (λ e r t. (a : Arrival) → Contains s.later a
    → (b : Arrival) × Contains t.later b × GrowsTo a b) s (λ slot f r. later_look s slot f r s.call s.flagged refl)
    (λ p side leaf new n a there. (a, there, same_arrival a)) (λ p side leaf n a there. (a, there, same_arrival a))
    (λ x side y p keep ns a there. (a, there, same_arrival a))
    (λ p side leaf new ns a there. (a, there, same_arrival a)) (λ e r a there. (a, there, same_arrival a))
