-- A try to pin: an announcement, and the sight that confirms it or not.
use Rattle.std.proofs.Common.{◌≡◌, ◌≢◌, ℕ, zero, suc, ◌==◌, Bool, true, false, cond, refl, sym, ap, ◌∙◌}
use Rattle.std.specs.Prelude.{List, [], ◌∷◌, ◌++◌, Option, Some, None, Result, Ok, Err, IsSome, IfOk, IfErr, is_some}
use Rattle.std.proofs.lemmas.Bool.{cond_both}
use Rattle.nm_model.specs.declared.knowledge.Brief.{Brief}
use Rattle.nm_model.specs.declared.event.Event.{Event}
use Rattle.nm_model.specs.declared.event.Event.TheVariants.{Sight, Announce, Leave}
use Rattle.nm_model.specs.declared.reply.Reply.{Reply}
use Rattle.nm_model.specs.declared.reply.Reply.TheVariants.{Saw, Labelled, Pinned, Missed, Announced, Departed}
use Rattle.nm_model.specs.Step.{confirmed}
use Rattle.nm_model.specs.Knowledge.{Knowledge}
use Rattle.nm_model.specs.Learning.{learn, rooted}
use Rattle.nm_model.specs.Walks.{Entry}
use Rattle.nm_model.specs.Searches.{Search, searched, begun}
use Rattle.nm_order.specs.Intervals.{HasKey}
use Rattle.nm_steps.specs.Rules.{knowledge}
use Rattle.nm_steps.specs.Steps.{PassView, MayStep, Stepped, IsSight, noted_sight, sight_of, pin_reply}
use Rattle.nm_steps.proofs.Noting.{noted, may_sight}
use Rattle.nm_epoch.specs.declared.pinning.Confirming.{Confirming}
use Rattle.nm_epoch.specs.declared.pinning.Confirming.TheVariants.{Plain, For}
use Rattle.nm_epoch.specs.Resting.{IsResting, IsPinnedAt, IsTrying, HasAnnounced, KeepsHands, epochs, search}
use Rattle.nm_epoch.specs.Tries.{WonTry, LostTry, LostTries, IsMoved, after_sight, confirming, call_confirmed}
use Rattle.nm_epoch.proofs.Entries.{epochs_after, search_is}
use Rattle.nm_epoch.proofs.KeptHands.{is_quiet, is_label, hands_kept, kept_on}
use Rattle.nm_epoch.proofs.Allowed.{may_sight_for}
use Rattle.nm_steps.proofs.Presence.{known_after_step}

-- ---- the confirming sight

noted_confirming : (by : Confirming) (b : Brief) (r : Reply) → noted b (confirming by) r ≡ noted_sight b r
noted_confirming Plain b r = refl
noted_confirming (For op key) b r = refl

searched_confirming : (by : Confirming) (s : Search) (r : Reply)
    → searched s (confirming by) r ≡ begun s (call_confirmed by) r
unfolding searched
searched_confirming Plain s r = refl
searched_confirming (For op key) s r = refl

pub may_confirm : (p : PassView) (by : Confirming) → IsSome (epochs p).announcement → (epochs p).pin ≡ None
    → HasKey (confirming by) → MayStep p (confirming by)
may_confirm p Plain announcement pin key = may_sight _ _ _
may_confirm p (For op k) announcement pin key = may_sight_for p op k announcement pin key

-- a pin makes slots 1 and 2 known
roots_known : (by : Confirming) (w : ℕ) (k : Knowledge) (e : ℕ) → (learn w k (confirming by) (Pinned e)).known ≡ rooted
unfolding learn
roots_known Plain w k e = refl
roots_known (For op key) w k e = refl

pub confirming_is_quiet : (by : Confirming) → is_quiet (confirming by) ≡ true
confirming_is_quiet Plain = refl
confirming_is_quiet (For op key) = refl

-- what is in its hands stays over a try
pub try_keeps : (p q r : PassView) (by : Confirming) (a : ℕ) (answer : Reply) → Stepped p q Announce (Announced a)
    → Stepped q r (confirming by) answer → is_label answer ≡ false → KeepsHands p r
try_keeps p q r by a answer first second silent = kept_on p q r
    (hands_kept p q Announce (Announced a) first refl (λ _. refl))
    (hands_kept q r (confirming by) answer second (confirming_is_quiet by) (λ _. silent))

-- ---- announced

pub announced : (p q : PassView) (a : ℕ) → Stepped p q Announce (Announced a) → IsTrying p → HasAnnounced a q
unfolding searched
announced p q a step t =
    let after = epochs_after p q Announce (Announced a) step in
    record {
      announcement = ap (λ (b : Brief). b.announcement) after;
      unpinned = ap (λ (b : Brief). b.pin) after ∙ t.unpinned;
      labelled = ap (λ (b : Brief). b.unlabelled) after ∙ t.labelled;
      idle = search_is p q Announce (Announced a) step ∙ t.idle;
    }

some_announcement : (a : ℕ) (p : PassView) → HasAnnounced a p → IsSome (epochs p).announcement
some_announcement a p h = ap is_some h.announcement

pub announced_may : (a : ℕ) (p : PassView) (by : Confirming) → HasAnnounced a p → HasKey (confirming by)
    → MayStep p (confirming by)
announced_may a p by h key = may_confirm p by (some_announcement a p h) h.unpinned key

-- so it is pinned, or has missed the epoch
answer_is : (b : Brief) (a e : ℕ) → b.announcement ≡ Some a → b.pin ≡ None → b.unlabelled ≡ false
    → sight_of b e ≡ cond (a == e) (Pinned e) (Missed e)
answer_is b a e announcement pin labelled =
    ap (λ (x : Bool). cond x (Labelled e) (confirmed b.pin b.announcement e)) labelled
    ∙ (ap (λ (o : Option ℕ). confirmed o b.announcement e) pin ∙ ap (λ (o : Option ℕ). confirmed None o e) announcement)

reply_is : (a : ℕ) (p : PassView) (r : Reply) → HasAnnounced a p → IsSight (epochs p) r
    → (e : ℕ) × (r ≡ cond (a == e) (Pinned e) (Missed e))
reply_is a p r h s = (s.0, s.2 ∙ answer_is (epochs p) a s.0 h.announcement h.unpinned h.labelled)

pub never_saw : (a x : ℕ) (p : PassView) → HasAnnounced a p → IsSight (epochs p) (Saw x) → ⊥
never_saw a x p h s = let r = reply_is a p (Saw x) h s in
    cond_both (a == r.0) (Pinned r.0) (Missed r.0) (λ y. Saw x ≡ y → ⊥) (λ _ e. cc) (λ _ e. cc) r.1

pub never_labelled : (a x : ℕ) (p : PassView) → HasAnnounced a p → IsSight (epochs p) (Labelled x) → ⊥
never_labelled a x p h s = let r = reply_is a p (Labelled x) h s in
    cond_both (a == r.0) (Pinned r.0) (Missed r.0) (λ y. Labelled x ≡ y → ⊥) (λ _ e. cc) (λ _ e. cc) r.1

-- ---- won and lost

won : (p q : PassView) (by : Confirming) (a e : ℕ) → HasAnnounced a p → e ≡ a
    → Stepped p q (confirming by) (Pinned e) → IsPinnedAt e (call_confirmed by) q
won p q by a e h same step =
    let after = epochs_after p q (confirming by) (Pinned e) step ∙ noted_confirming by (epochs p) (Pinned e) in
    record {
      seen = ap (λ (b : Brief). b.seen) after;
      announcement = ap (λ (b : Brief). b.announcement) after ∙ (h.announcement ∙ ap (λ (n : ℕ). Some n) (sym same));
      pin = ap (λ (b : Brief). b.pin) after;
      labelled = ap (λ (b : Brief). b.unlabelled) after ∙ h.labelled;
      begun = search_is p q (confirming by) (Pinned e) step ∙ searched_confirming by (search p) (Pinned e);
      known = ap (λ (k : Knowledge). k.known) (known_after_step p q (confirming by) (Pinned e) step)
          ∙ roots_known by p.view.number (knowledge p.view) e;
    }

lost_seen : (p q : PassView) (by : Confirming) (e : ℕ) → Stepped p q (confirming by) (Missed e)
    → (epochs q).seen ≡ Some e
lost_seen p q by e step = ap (λ (b : Brief). b.seen)
    (epochs_after p q (confirming by) (Missed e) step ∙ noted_confirming by (epochs p) (Missed e))

lost : (p q : PassView) (by : Confirming) (a e : ℕ) → HasAnnounced a p → Stepped p q (confirming by) (Missed e)
    → IsTrying q
lost p q by a e h step =
    let after = epochs_after p q (confirming by) (Missed e) step ∙ noted_confirming by (epochs p) (Missed e) in
    record {
      seen = ap is_some (lost_seen p q by e step);
      unpinned = ap (λ (b : Brief). b.pin) after ∙ h.unpinned;
      labelled = ap (λ (b : Brief). b.unlabelled) after ∙ h.labelled;
      idle = search_is p q (confirming by) (Missed e) step ∙ (searched_confirming by (search p) (Missed e) ∙ h.idle);
    }

-- ---- by what the sight answered

pub at_won : (p q : PassView) (by : Confirming) (a : ℕ) (r : Result ℕ ℕ) → HasAnnounced a p → IfOk r (λ e. e ≡ a)
    → Stepped p q (confirming by) (pin_reply r) → IfOk r (λ e. IsPinnedAt e (call_confirmed by) q)
at_won p q by a (Ok e) h same step = won p q by a e h same step
at_won p q by a (Err e) h same step = tt

pub tries_lost : (p q : PassView) (by : Confirming) (a : ℕ) (r : Result ℕ ℕ) → HasAnnounced a p
    → Stepped p q (confirming by) (pin_reply r) → IfErr r (λ e. IsTrying q)
tries_lost p q by a (Ok e) h step = tt
tries_lost p q by a (Err e) h step = lost p q by a e h step

pub sees_lost : (p q : PassView) (by : Confirming) (r : Result ℕ ℕ) → Stepped p q (confirming by) (pin_reply r)
    → IfErr r (λ e. (epochs q).seen ≡ Some e)
sees_lost p q by (Ok e) step = tt
sees_lost p q by (Err e) step = lost_seen p q by e step

-- the log grows by an announcement and then the sight
logs : (p q r : PassView) (by : Confirming) (a : ℕ) (answer : Reply) → Stepped p q Announce (Announced a)
    → Stepped q r (confirming by) answer
    → r.view.log ≡ (p.view.log ++ (Announce, Announced a) ∷ []) ++ (confirming by, answer) ∷ []
logs p q r by a answer first second =
    ap (λ (s : PassView). s.view.log) second ∙ ap (λ (l : List Entry). l ++ (confirming by, answer) ∷ [])
    (ap (λ (s : PassView). s.view.log) first)

pub won_try : (p q r : PassView) (by : Confirming) (a : ℕ) (x : Result ℕ ℕ) → Stepped p q Announce (Announced a)
    → Stepped q r (confirming by) (pin_reply x) → IfOk x (λ e. WonTry (confirming by) e p.view.log r.view.log)
won_try p q r by a (Ok e) first second = (a, logs p q r by a (Pinned e) first second)
won_try p q r by a (Err e) first second = tt

pub lost_try : (p q r : PassView) (by : Confirming) (a : ℕ) (x : Result ℕ ℕ) → Stepped p q Announce (Announced a)
    → Stepped q r (confirming by) (pin_reply x) → IfErr x (λ e. LostTry (confirming by) p.view.log r.view.log)
lost_try p q r by a (Ok e) first second = tt
lost_try p q r by a (Err e) first second = (a, e, logs p q r by a (Missed e) first second)

-- each of the tries was lost, and there was one
pub moved : (by : Event) (tries : ℕ) (old mid new : List Entry) (first : ℕ) → tries ≢ 0
    → LostTries by tries (after_sight old first) mid → new ≡ mid ++ (Leave, Departed) ∷ [] → IsMoved by tries old new
moved by zero old mid new first some lost is = absurd (some refl)
moved by (suc n) old mid new first some lost is = (first, mid, lost, is)

pub no_label : (x : Result ℕ ℕ) → is_label (pin_reply x) ≡ false
no_label (Ok e) = refl
no_label (Err e) = refl

-- ---- the first sight

pub sees : (p q : PassView) (e : ℕ) → Stepped p q Sight (Saw e) → (epochs q).seen ≡ Some e
sees p q e step = ap (λ (b : Brief). b.seen) (epochs_after p q Sight (Saw e) step)

pub rests_on : (p q : PassView) (e : ℕ) → IsResting p → Stepped p q Sight (Saw e) → IsResting q
unfolding searched
rests_on p q e rests step =
    let after = epochs_after p q Sight (Saw e) step in
    record {
      unpinned = ap (λ (b : Brief). b.pin) after ∙ rests.unpinned;
      silent = ap (λ (b : Brief). b.announcement) after ∙ rests.silent;
      labelled = ap (λ (b : Brief). b.unlabelled) after ∙ rests.labelled;
      idle = search_is p q Sight (Saw e) step ∙ rests.idle;
    }

pub tries_on : (p q : PassView) (e : ℕ) → IsResting p → Stepped p q Sight (Saw e) → IsTrying q
tries_on p q e rests step =
    let r = rests_on p q e rests step in
    record { seen = ap is_some (sees p q e step); unpinned = r.unpinned; labelled = r.labelled; idle = r.idle }
