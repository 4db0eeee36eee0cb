-- A worker is there until it resigns, and what it knows after one entry more.
use Rattle.std.proofs.Common.{◌≡◌, ℕ, ◌==◌, false, List, [], ◌∷◌, ◌++◌, refl, sym, ap, ◌∙◌}
use Rattle.std.proofs.lemmas.Bool.{cond-false, ne_eqb, eqb-false}
use Rattle.nm_edge.specs.Layouts.{Layout}
use Rattle.nm_model.specs.declared.event.Event.{Event}
use Rattle.nm_model.specs.declared.event.Event.TheVariants.{Sight, SightFor, Announce, Leave, LeaveWith, Scan, Advance, Claim, Give, Look, Fill, Link, Flag, Tag, Splice, Swap, Join}
use Rattle.nm_model.specs.declared.reply.Reply.{Reply}
use Rattle.nm_model.specs.declared.reply.Reply.TheVariants.{Announced, Departed, Moved, Behind, Claimed, Returned, Freed, Filled, Linked, Flagged, Was, Cut, Lost, Joined}
use Rattle.nm_model.specs.Knowledge.{Knowledge}
use Rattle.nm_model.specs.Learning.{learn, resigned, inheriting}
use Rattle.nm_model.specs.Walks.{Entry}
use Rattle.nm_laws.proofs.Learned.{sight_teaches, scan_teaches, look_teaches}
use Rattle.nm_order.specs.Logs.{is_leaver, known_by}
use Rattle.nm_order.proofs.LastEntries.{known_more}
use Rattle.nm_steps.specs.Rules.{knowledge}
use Rattle.nm_steps.specs.Steps.{PassView, Stepped}

-- no event but a join by which it resigns makes a worker gone
pub gone_kept : (w : ℕ) (k : Knowledge) (e : Event) (r : Reply) → is_leaver w e ≡ false → (learn w k e r).gone ≡ k.gone
unfolding learn
gone_kept w k Sight r h = ap (λ (l : Knowledge). l.gone) (sight_teaches k r)
gone_kept w k (SightFor op key) r h = ap (λ (l : Knowledge). l.gone) (sight_teaches k r)
gone_kept w k Announce (Announced e) h = refl
gone_kept w k Leave Departed h = refl
gone_kept w k (LeaveWith answer) Departed h = refl
gone_kept w k (Scan u) r h = ap (λ (l : Knowledge). l.gone) (scan_teaches k u r)
gone_kept w k Advance (Moved e) h = refl
gone_kept w k Advance (Behind e) h = refl
gone_kept w k (Claim s) (Claimed t) h = refl
gone_kept w k (Give s) (Returned t) h = refl
gone_kept w k (Give s) (Freed m) h = refl
gone_kept w k (Look s f) r h = ap (λ (l : Knowledge). l.gone) (look_teaches k s f r)
gone_kept w k (Fill s f v) Filled h = refl
gone_kept w k (Link p side leaf new) (Linked m) h = refl
gone_kept w k (Link p side leaf new) (Lost e) h = refl
gone_kept w k (Flag p side leaf) (Flagged m) h = refl
gone_kept w k (Flag p side leaf) (Lost e) h = refl
gone_kept w k (Tag p side) (Was e) h = refl
gone_kept w k (Splice a side s p keep) (Cut ns) h = refl
gone_kept w k (Splice a side s p keep) (Lost e) h = refl
gone_kept w k (Swap p side leaf new) (Cut ns) h = refl
gone_kept w k (Swap p side leaf new) (Lost e) h = refl
gone_kept w k (Join v) (Joined ls) h = ap (λ x. x.gone)
    (cond-false (w == v) (resigned k) (inheriting k ls) (ne_eqb w v (λ same. eqb-false v w h (sym same))))
gone_kept w k _ _ h = refl

-- ---- one entry more

pub known_push : (w : ℕ) (L : Layout) (log : List Entry) (x : Entry)
    → known_by L w (log ++ x ∷ []) ≡ learn w (known_by L w log) x.0 x.1
known_push w L log x = known_more w _ log x

-- the same, of a pass and a step of its own
pub known_after_step : (p q : PassView) (e : Event) (r : Reply) → Stepped p q e r
    → knowledge q.view ≡ learn p.view.number (knowledge p.view) e r
known_after_step p q e r is = ap (λ (s : PassView). knowledge s.view) is
    ∙ known_push p.view.number p.view.layout p.view.log (e, r)
