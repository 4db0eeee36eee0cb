-- What an event with its reply does to a search, and that under one pin known nodes stay known.
use Rattle.std.proofs.Common.{◌≡◌, ℕ, inr, eqb, Bool, true, [], refl}
use Rattle.std.specs.Prelude.{Some, None}
use Rattle.std.proofs.lemmas.Bool.{cond_both}
use Rattle.nm_edge.specs.Edges.{Edge, tagged}
use Rattle.nm_edge.specs.declared.edge.Side.{Side}
use Rattle.nm_model.specs.declared.event.Field.{Field}
use Rattle.nm_model.specs.declared.event.Field.TheVariants.{Edge as EdgeOn, Birth}
use Rattle.nm_model.specs.declared.event.Op.{Op}
use Rattle.nm_model.specs.declared.event.Event.{Event}
use Rattle.nm_model.specs.declared.event.Event.TheVariants.{Sight, SightFor, Announce, Leave, LeaveWith, Scan, Advance, Claim, Give, Look, Fill, Link, Flag, Tag, Splice, Join, Swap}
use Rattle.nm_model.specs.declared.reply.Reply.{Reply}
use Rattle.nm_model.specs.declared.reply.Reply.TheVariants.{Saw, Labelled, Pinned, Missed, Announced, Departed, Idle, In, Moved, Behind, Claimed, Returned, Freed, EdgeIs, BirthIs, Filled, Linked, Flagged, Was, Cut, Lost, Joined}
use Rattle.nm_model.specs.Knowledge.{Knowledge, knows, is_private, seen_of}
use Rattle.nm_model.specs.Learning.{learn, learn_scan, look_known, look_private, read_edge, flag_to, with_read, met, resigned, inheriting}
use Rattle.nm_model.specs.Searches.{Search, searched, look_for}
use Rattle.nm_model.proofs.Tables.{has_put_there}
use Rattle.nm_laws.proofs.Views.{has_met_there}

-- what was known is known
abbrev pub StillKnown : Knowledge → Knowledge → Type 0
StillKnown k l = (x : ℕ) → knows k x ≡ true → knows l x ≡ true

pub still_read : (k : Knowledge) (p : ℕ) (d : Side) (e : Edge) → StillKnown k (read_edge k p d e)
still_read k p d e x h = has_put_there (met k.known e.slot) p (with_read (seen_of k p) d e) x
    (inr (has_met_there k.known e.slot x h))

-- a search goes on, or it ends, or a call begins; and it may have looked at a field
pub data SearchStep (s : Search) (w : ℕ) (k : Knowledge) (e : Event) (r : Reply) : Type 0 where
  Same : (searched s e r).call ≡ s.call → (searched s e r).walks ≡ s.walks → StillKnown k (learn w k e r)
      → SearchStep s w k e r
  Looked : (x : ℕ) (f : Field) → e ≡ Look x f → searched s e r ≡ look_for s s.call x f r
      → StillKnown k (learn w k e r) → SearchStep s w k e r
  Begun : (op : Op) (key : ℕ) → e ≡ SightFor op key → (searched s e r).call ≡ Some (record { op = op; key = key })
      → (searched s e r).walks ≡ [] → SearchStep s w k e r
  Over : (searched s e r).call ≡ None → SearchStep s w k e r

sight_step : (s : Search) (w : ℕ) (k : Knowledge) (r : Reply) → SearchStep s w k Sight r
unfolding learn searched
sight_step s w k (Pinned e) = Over refl
sight_step s w k (Saw e) = Same refl refl (λ x h. h)
sight_step s w k (Labelled e) = Same refl refl (λ x h. h)
sight_step s w k (Missed e) = Same refl refl (λ x h. h)
sight_step s w k _ = Same refl refl (λ x h. h)

call_step : (s : Search) (w : ℕ) (k : Knowledge) (op : Op) (key : ℕ) (r : Reply) → SearchStep s w k (SightFor op key) r
unfolding learn searched
call_step s w k op key (Pinned e) = Begun op key refl refl refl
call_step s w k op key (Saw e) = Same refl refl (λ x h. h)
call_step s w k op key (Labelled e) = Same refl refl (λ x h. h)
call_step s w k op key (Missed e) = Same refl refl (λ x h. h)
call_step s w k op key _ = Same refl refl (λ x h. h)

leave_step : (s : Search) (w : ℕ) (k : Knowledge) (r : Reply) → SearchStep s w k Leave r
unfolding learn searched
leave_step s w k Departed = Over refl
leave_step s w k _ = Same refl refl (λ x h. h)

answer_step : (s : Search) (w : ℕ) (k : Knowledge) (answer : Bool) (r : Reply) → SearchStep s w k (LeaveWith answer) r
unfolding learn searched
answer_step s w k answer Departed = Over refl
answer_step s w k answer _ = Same refl refl (λ x h. h)

scan_still : (k : Knowledge) (u : ℕ) (r : Reply) → StillKnown k (learn_scan k u r)
scan_still k u Idle x h = h
scan_still k u (In e) x h = h
scan_still k u _ x h = h

private_still : (k : Knowledge) (s : ℕ) (f : Field) (r : Reply) → StillKnown k (look_private k s f r)
private_still k s Birth (BirthIs b) x h = h
private_still k s _ _ x h = h

known_still : (k : Knowledge) (s : ℕ) (f : Field) (r : Reply) → StillKnown k (look_known k s f r)
known_still k s (EdgeOn d) (EdgeIs e) x h = still_read k s d e x h
known_still k s Birth (BirthIs b) x h = has_put_there k.known s (record (seen_of k s) { birth = Some b }) x (inr h)
known_still k s _ _ x h = h

look_step : (s : Search) (w : ℕ) (k : Knowledge) (y : ℕ) (f : Field) (r : Reply) → SearchStep s w k (Look y f) r
unfolding learn searched
look_step s w k y f r = Looked y f refl refl (cond_both (is_private k y) (look_private k y f r) (look_known k y f r)
    (StillKnown k) (λ _. private_still k y f r) (λ _. known_still k y f r))

pub search_step : (s : Search) (w : ℕ) (k : Knowledge) (e : Event) (r : Reply) → SearchStep s w k e r
unfolding learn searched
search_step s w k Sight r = sight_step s w k r
search_step s w k (SightFor op key) r = call_step s w k op key r
search_step s w k Announce (Announced e) = Same refl refl (λ x h. h)
search_step s w k Leave r = leave_step s w k r
search_step s w k (LeaveWith answer) r = answer_step s w k answer r
search_step s w k (Scan u) r = Same refl refl (scan_still k u r)
search_step s w k Advance (Moved e) = Same refl refl (λ x h. h)
search_step s w k Advance (Behind e) = Same refl refl (λ x h. h)
search_step s w k (Claim y) (Claimed t) = Same refl refl (λ x h. h)
search_step s w k (Give y) (Returned t) = Same refl refl (λ x h. h)
search_step s w k (Give y) (Freed n) = Same refl refl (λ x h. h)
search_step s w k (Look y f) r = look_step s w k y f r
search_step s w k (Fill y f v) Filled = Same refl refl (λ x h. h)
search_step s w k (Link p d leaf new) (Linked n) = Same refl refl (λ x h. has_met_there k.known new x h)
search_step s w k (Link p d leaf new) (Lost e) = Same refl refl (still_read k p d e)
search_step s w k (Flag p d leaf) (Flagged n) = Same refl refl (still_read k p d (flag_to leaf))
search_step s w k (Flag p d leaf) (Lost e) = Same refl refl (still_read k p d e)
search_step s w k (Tag p d) (Was e) = Same refl refl (still_read k p d (tagged e))
search_step s w k (Splice a d y p keep) (Cut ns) = Same refl refl (λ x h. h)
search_step s w k (Splice a d y p keep) (Lost e) = Same refl refl (still_read k a d e)
search_step s w k (Swap p d leaf new) (Cut ns) = Same refl refl (λ x h. has_met_there k.known new x h)
search_step s w k (Swap p d leaf new) (Lost e) = Same refl refl (still_read k p d e)
search_step s w k (Join v) (Joined ls) = Same refl refl
    (cond_both (eqb w v) (resigned k) (inheriting k ls) (StillKnown k) (λ _ x h. h) (λ _ x h. h))
search_step s w k e r = Same refl refl (λ x h. h)
