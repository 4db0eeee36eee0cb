-- What a search knows of a call, by the log since its pin: its arrivals are those of that part, and
-- its later ones those of the part behind the flag.
use Rattle.std.proofs.Common.{◌≡◌, ℕ, Bool, true, false, cond, ◌||◌, List, [], ◌∷◌, ◌++◌, append_assoc, true≢false, refl, sym, ap, subst, ◌∙◌}
use Rattle.std.specs.Prelude.{Option, Some, None, is_some, All}
use Rattle.std.specs.List.{list_any}
use Rattle.std.proofs.lemmas.Bool.{cond_both, cond-false}
use Rattle.std.proofs.lemmas.List.{append-nil}
use Rattle.std.proofs.lemmas.List.Folds.{list_any-append}
use Rattle.std.proofs.lemmas.Option.{none-some, same_Some}
use Rattle.nm_edge.specs.declared.node.NodeId.{NodeId}
use Rattle.nm_model.specs.declared.event.Op.TheVariants.{Has}
use Rattle.nm_model.specs.declared.event.Event.{Event}
use Rattle.nm_model.specs.declared.event.Event.TheVariants.{Sight, SightFor, Leave, LeaveWith, Look, Link, Flag, Splice, Swap}
use Rattle.nm_model.specs.declared.event.Field.{Field}
use Rattle.nm_model.specs.declared.reply.Reply.{Reply}
use Rattle.nm_model.specs.declared.reply.Reply.TheVariants.{Pinned, Departed, Linked, Flagged, Cut}
use Rattle.nm_model.specs.declared.arrivals.Call.{Call}
use Rattle.nm_model.specs.declared.arrivals.Arrival.{Arrival}
use Rattle.nm_model.specs.Searches.{Search, idle, walked, later_walked, look_for, searched}
use Rattle.nm_model.specs.Walks.{Entry, IsPart, IsOfWalk, search_after, begins_anew, since_pin}
use Rattle.nm_model.specs.Walks.IsPart.{nothing, skips}
use Rattle.nm_laws.proofs.SearchesGrow.{only_grow, begun_is}
use Rattle.nm_laws.proofs.WalksOfLogs.{arrivals_are_walks}
use Rattle.nm_order.specs.WalksToArrivals.{is_won_flag, since_flag}
use Rattle.nm_order.proofs.LogParts.{part_itself}
use Rattle.nm_order.proofs.ArrivalsOfLooks.{walked_by}
use Rattle.nm_order.proofs.WalksAfter.{walks_after, walks_more}

-- ---- one entry

-- the arrivals of the walks behind a flag, once there is one
abbrev pub later_by : Bool → ℕ → List Arrival → Entry → List Arrival
later_by true k ws e = walked_by k ws e
later_by false k ws e = ws

-- under a pin, what an entry adds
pub record Adds (s t : Search) (call : Call) (e : Entry) : Type 0 where
  pub same : t.call ≡ Some call
  pub walks : t.walks ≡ walked_by call.key s.walks e
  pub later : t.later ≡ later_by (is_some s.flagged) call.key s.later e
  pub flagged : is_some t.flagged ≡ (is_some s.flagged || is_won_flag e)

-- a flag that is not won, and one that is
or_not : (b : Bool) → b ≡ (b || false)
or_not true = refl
or_not false = refl

or_so : (b : Bool) → true ≡ (b || true)
or_so true = refl
or_so false = refl

-- what leaves a list of arrivals leaves the later ones
kept : (b : Bool) (k : ℕ) (ws : List Arrival) (e : Entry) → walked_by k ws e ≡ ws → ws ≡ later_by b k ws e
kept true k ws e is = sym is
kept false k ws e is = refl

-- an entry that is no look and no flag
adds_nothing : (s t : Search) (call : Call) (e : Entry) → t.call ≡ Some call → t.walks ≡ s.walks → t.later ≡ s.later
    → t.flagged ≡ s.flagged → ((ws : List Arrival) → walked_by call.key ws e ≡ ws) → is_won_flag e ≡ false
    → Adds s t call e
adds_nothing s t call e same walks later flagged quiet unflagged = record {
  same = same;
  walks = walks ∙ sym (quiet s.walks);
  later = later ∙ kept (is_some s.flagged) call.key s.later e (quiet s.later);
  flagged = ap is_some flagged ∙ (or_not (is_some s.flagged)
      ∙ ap (λ (b : Bool). is_some s.flagged || b) (sym unflagged));
}

-- a look
adds_look : (s : Search) (call : Call) (slot : ℕ) (f : Field) (r : Reply) (o : Option Call) → s.call ≡ o
    → o ≡ Some call → Adds s (look_for s o slot f r) call (Look slot f, r)
adds_look s call slot f r None is some = absurd (none-some call some)
adds_look s call slot f r (Some c) is some = record {
  same = is ∙ some;
  walks = ap (λ (d : Call). walked d.key s.walks slot f r) (same_Some c call some);
  later = ap (λ (d : Call). later_walked s.flagged d.key s.later slot f r) (same_Some c call some) ∙ by s.flagged;
  flagged = or_not (is_some s.flagged);
}
  where
    by : (o : Option NodeId) → later_walked o call.key s.later slot f r
        ≡ later_by (is_some o) call.key s.later (Look slot f, r)
    by None = refl
    by (Some n) = refl

-- any entry under the pin
pub adds : (s : Search) (call : Call) (e : Event) (r : Reply) → begins_anew (e, r) ≡ false → s.call ≡ Some call
    → Adds s (searched s e r) call (e, r)
unfolding searched
adds s call Sight (Pinned n) stands is = absurd (true≢false stands)
adds s call (SightFor op key) (Pinned n) stands is = absurd (true≢false stands)
adds s call Leave Departed stands is = absurd (true≢false stands)
adds s call (LeaveWith answer) Departed stands is = absurd (true≢false stands)
adds s call (Look slot f) r stands is = adds_look s call slot f r s.call refl is
adds s call (Flag p side leaf) (Flagged n) stands is = record {
  same = is;
  walks = refl;
  later = kept (is_some s.flagged) call.key s.later (Flag p side leaf, Flagged n) refl;
  flagged = or_so (is_some s.flagged);
}
adds s call (Link p side leaf new) (Linked n) stands is = adds_nothing s _ call (Link p side leaf new, Linked n) is
    refl refl refl (λ ws. refl) refl
adds s call (Splice a side x p keep) (Cut ns) stands is = adds_nothing s _ call (Splice a side x p keep, Cut ns) is
    refl refl refl (λ ws. refl) refl
adds s call (Swap p side leaf new) (Cut ns) stands is =
    adds_nothing s _ call (Swap p side leaf new, Cut ns) is refl refl refl (λ ws. refl) refl
adds s call e r stands is = adds_nothing s _ call (e, r) is refl refl refl (λ ws. refl) refl

-- where a pin is confirmed or left, nothing is known
pub record IsNew (s : Search) : Type 0 where
  pub walks : s.walks ≡ []
  pub later : s.later ≡ []
  pub flagged : s.flagged ≡ None

pub begun_anew : (s : Search) (e : Event) (r : Reply) → begins_anew (e, r) ≡ true → IsNew (searched s e r)
begun_anew s e r anew = let is = begun_is s e r anew in
    record {
      walks = ap (λ (t : Search). t.walks) is;
      later = ap (λ (t : Search). t.later) is;
      flagged = ap
          (λ (t : Search). t.flagged) is;
    }

-- ---- the part behind the flag

abbrev pub has_flag : List Entry → Bool
has_flag es = list_any is_won_flag es

-- it grows with the log once a flag is won
pub since_flag_more : (es : List Entry) (e : Entry)
    → since_flag (es ++ e ∷ []) ≡ cond (has_flag es) (since_flag es ++ e ∷ []) []
since_flag_more [] e = by (is_won_flag e)
  where
    by : (b : Bool) → cond b [] (since_flag []) ≡ []
    by true = refl
    by false = refl
since_flag_more (x ∷ es) e = by (is_won_flag x) (since_flag_more es e)
  where
    by : (b : Bool) → since_flag (es ++ e ∷ []) ≡ cond (has_flag es) (since_flag es ++ e ∷ []) []
        → cond b (es ++ e ∷ []) (since_flag (es ++ e ∷ []))
        ≡ cond (b || has_flag es) (cond b es (since_flag es) ++ e ∷ []) []
    by true rest = refl
    by false rest = rest

pub no_flag : (es : List Entry) → has_flag es ≡ false → since_flag es ≡ []
no_flag [] none = refl
no_flag (e ∷ es) none = by (is_won_flag e) none (no_flag es)
  where
    by : (b : Bool) → (b || has_flag es) ≡ false → (has_flag es ≡ false → since_flag es ≡ [])
        → cond b es (since_flag es) ≡ []
    by true none rest = absurd (true≢false none)
    by false none rest = rest none

-- it is a part of the log
pub part_since_flag : (es : List Entry) → IsPart (since_flag es) es
part_since_flag [] = nothing
part_since_flag (e ∷ es) = skips (cond_both (is_won_flag e) es (since_flag es) (λ xs. IsPart xs es)
    (λ _. part_itself es) (λ _. part_since_flag es))

-- ---- parts of a log in which no pin is confirmed or left

abbrev pub Stays : List Entry → Type 0
Stays [] = Unit {0}
Stays (e ∷ es) = (begins_anew e ≡ false) × Stays es

stays_more : (es : List Entry) (e : Entry) → Stays es → begins_anew e ≡ false → Stays (es ++ e ∷ [])
stays_more [] e stays is = (is, tt)
stays_more (x ∷ es) e stays is = (stays.0, stays_more es e stays.1 is)

pub stays_before : (es more : List Entry) → Stays (es ++ more) → Stays es
stays_before [] more stays = tt
stays_before (e ∷ es) more stays = (stays.0, stays_before es more stays.1)

pub stays_since_flag : (es : List Entry) → Stays es → Stays (since_flag es)
stays_since_flag [] stays = tt
stays_since_flag (e ∷ es) stays = cond_both (is_won_flag e) es (since_flag es) Stays (λ _. stays.1)
    (λ _. stays_since_flag es stays.1)

pub stays_since_pin : (es so_far : List Entry) → Stays so_far → Stays (since_pin so_far es)
stays_since_pin [] so_far stays = stays
stays_since_pin (e ∷ es) so_far stays = stays_since_pin es _
    (cond_both (begins_anew e) [] (so_far ++ e ∷ []) Stays (λ _. tt) (λ is. stays_more so_far e stays is))

all_since_pin : (es so_far : List Entry) → Stays es → since_pin so_far es ≡ so_far ++ es
all_since_pin [] so_far stays = sym (append-nil so_far)
all_since_pin (e ∷ es) so_far stays = ap (λ (xs : List Entry). since_pin xs es)
    (cond-false (begins_anew e) [] (so_far ++ e ∷ []) stays.0)
    ∙ (all_since_pin es (so_far ++ e ∷ []) stays.1 ∙ append_assoc so_far (e ∷ []) es)

call_stays : (es : List Entry) (s : Search) (call : Call) → Stays es → s.call ≡ Some call
    → (search_after s es).call ≡ Some call
call_stays [] s call stays is = is
call_stays (e ∷ es) s call stays is = call_stays es (searched s e.0 e.1) call stays.1
    (adds s call e.0 e.1 stays.0 is).same

-- ---- a whole log

-- what a search knows after the part of a log since the pin
pub record Knows (s : Search) (log : List Entry) (call : Call) : Type 0 where
  pub walks : s.walks ≡ walks_after call.key [] log
  pub later : s.later ≡ walks_after call.key [] (since_flag log)
  pub flagged : is_some s.flagged ≡ has_flag log

-- of whatever call it is
abbrev KnowsCall : Search → List Entry → Type 0
KnowsCall s log = (call : Call) → s.call ≡ Some call → Knows s log call

knows_more : (s : Search) (log : List Entry) (e : Entry) → KnowsCall s log
    → KnowsCall (searched s e.0 e.1) (cond (begins_anew e) [] (log ++ e ∷ []))
knows_more s log e knows call is = by (begins_anew e) refl
  where
    by : (b : Bool) → begins_anew e ≡ b → Knows (searched s e.0 e.1) (cond b [] (log ++ e ∷ [])) call
    by true anew = let new = begun_anew s e.0 e.1 anew in
        record { walks = new.walks; later = new.later; flagged = ap is_some new.flagged }
    by false stands = record {
      walks = a.walks ∙ (ap (λ (ws : List Arrival). walked_by call.key ws e) k.walks
          ∙ sym (walks_more call.key [] log e));
      later = a.later ∙ ((λ i. later_by (k.flagged i) call.key (k.later i) e)
          ∙ (behind (has_flag log) refl ∙ sym (ap (walks_after call.key []) (since_flag_more log e))));
      flagged = a.flagged ∙ (ap (λ (b : Bool). b || is_won_flag e) k.flagged
          ∙ (ap (λ (b : Bool). has_flag log || b) (or_not (is_won_flag e))
          ∙ sym (list_any-append is_won_flag log (e ∷ []))));
    }
      where
        called : s.call ≡ Some call
        called = sym (only_grow s e.0 e.1 stands).call ∙ is

        a : Adds s (searched s e.0 e.1) call e
        a = adds s call e.0 e.1 stands called

        k : Knows s log call
        k = knows call called

        behind : (b : Bool) → has_flag log ≡ b → later_by b call.key (walks_after call.key [] (since_flag log)) e
            ≡ walks_after call.key [] (cond b (since_flag log ++ e ∷ []) [])
        behind true has = sym (walks_more call.key [] (since_flag log) e)
        behind false none = ap (walks_after call.key []) (no_flag log none)

knows_all : (es : List Entry) (s : Search) (log : List Entry) → KnowsCall s log
    → KnowsCall (search_after s es) (since_pin log es)
knows_all [] s log knows = knows
knows_all (e ∷ es) s log knows = knows_all es (searched s e.0 e.1) (cond (begins_anew e) [] (log ++ e ∷ []))
    (knows_more s log e knows)

pub knows_log : (es : List Entry) (call : Call) → (search_after idle es).call ≡ Some call
    → Knows (search_after idle es) (since_pin [] es) call
knows_log es = knows_all es idle [] (λ call is. absurd (none-some call is))

-- each arrival of a part of a log is one of a walk of it
pub sound : (k : ℕ) (part : List Entry) → Stays part → All (IsOfWalk k part) (walks_after k [] part)
unfolding searched
sound k part stays =
    let call : Call = record { op = Has; key = k } in
    let log : List Entry = (SightFor Has k, Pinned 0) ∷ part in
    let called = call_stays part (searched idle (SightFor Has k) (Pinned 0)) call stays refl in
    let all : All (IsOfWalk k (since_pin [] log)) (search_after idle log).walks = arrivals_are_walks log call called in
    subst (λ (ws : List Arrival). All (IsOfWalk k part) ws)
    ((knows_log log call called).walks ∙ ap (walks_after k []) (all_since_pin part [] stays))
    (subst (λ (es : List Entry). All (IsOfWalk k es) (search_after idle log).walks) (all_since_pin part [] stays) all)
