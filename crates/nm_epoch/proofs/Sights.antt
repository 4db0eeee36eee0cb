-- What a sight leaves of a worker's epochs and of its call.
use Rattle.std.proofs.Common.{◌≡◌, ◌⊎◌, ◌==◌, inl, inr, ℕ, false, refl, sym, ap, ◌∙◌}
use Rattle.std.specs.Prelude.{Option, Some, None, IsSome}
use Rattle.std.proofs.lemmas.Bool.{cond_both}
use Rattle.std.proofs.lemmas.Option.{none-some}
use Rattle.nm_model.specs.declared.knowledge.Brief.{Brief}
use Rattle.nm_model.specs.declared.event.Event.TheVariants.{Sight}
use Rattle.nm_model.specs.declared.reply.Reply.{Reply}
use Rattle.nm_model.specs.declared.reply.Reply.TheVariants.{Saw, Labelled, Pinned, Missed}
use Rattle.nm_model.specs.Step.{confirmed}
use Rattle.nm_model.specs.Knowledge.{Knowledge}
use Rattle.nm_model.specs.Learning.{learn}
use Rattle.nm_model.specs.Searches.{Search, searched, begun}
use Rattle.nm_steps.specs.Rules.{knowledge}
use Rattle.nm_steps.specs.Steps.{PassView, Stepped, IsSight, noted_sight, sight_of}
use Rattle.nm_epoch.specs.Resting.{IsSettled, Settles, epochs, search}
use Rattle.nm_epoch.proofs.Entries.{epochs_after, search_is}
use Rattle.nm_order.specs.Reads.{sight_epoch}
use Rattle.nm_steps.proofs.Presence.{known_after_step}

-- ---- the epoch read

seen_told : (b : Brief) (r : Reply) (e : ℕ) → sight_epoch r ≡ Some e → (noted_sight b r).seen ≡ Some e
seen_told b (Saw x) e h = h
seen_told b (Labelled x) e h = h
seen_told b (Pinned x) e h = h
seen_told b (Missed x) e h = h
seen_told b _ e h = absurd (none-some e h)

pub read_seen : (p q : PassView) (r : Reply) (e : ℕ) → Stepped p q Sight r → sight_epoch r ≡ Some e
    → (epochs q).seen ≡ Some e
read_seen p q r e step is = ap (λ (b : Brief). b.seen) (epochs_after p q Sight r step) ∙ seen_told (epochs p) r e is

-- ---- labels

label_kept : (b : Brief) (pin announced : Option ℕ) (e : ℕ)
    → (noted_sight b (confirmed pin announced e)).unlabelled ≡ b.unlabelled
label_kept b (Some p) announced e = refl
label_kept b None None e = refl
label_kept b None (Some a) e = cond_both (a == e) (Pinned e) (Missed e)
    (λ r. (noted_sight b r).unlabelled ≡ b.unlabelled) (λ _. refl) (λ _. refl)

is_labelled : (b : Brief) (e : ℕ) → (noted_sight b (sight_of b e)).unlabelled ≡ false
is_labelled b e = cond_both b.unlabelled (Labelled e) (confirmed b.pin b.announcement e)
    (λ r. (noted_sight b r).unlabelled ≡ false) (λ _. refl) (λ no. label_kept b b.pin b.announcement e ∙ no)

-- ---- a settled worker is not pinned anew

never_confirmed : (pin announced : Option ℕ) (e x : ℕ) → IsSome pin ⊎ (announced ≡ None)
    → confirmed pin announced e ≡ Pinned x → ⊥
never_confirmed (Some p) announced e x h is = cc
never_confirmed None None e x h is = cc
never_confirmed None (Some a) e x (inl h) is = cc
never_confirmed None (Some a) e x (inr h) is = cc

never_pinned : (p : PassView) (r : Reply) → IsSettled p → IsSight (epochs p) r → (x : ℕ) → r ≡ Pinned x → ⊥
never_pinned p r settled s x is =
    cond_both (epochs p).unlabelled (Labelled s.0) (confirmed (epochs p).pin (epochs p).announcement s.0)
    (λ y. y ≡ Pinned x → ⊥)
    (λ _ h. cc) (λ _ h. never_confirmed (epochs p).pin (epochs p).announcement s.0 x settled h) (sym s.2 ∙ is)

pin_kept : (b : Brief) (r : Reply) → ((x : ℕ) → r ≡ Pinned x → ⊥) → (noted_sight b r).pin ≡ b.pin
pin_kept b (Pinned x) not' = absurd (not' x refl)
pin_kept b (Saw x) not' = refl
pin_kept b (Labelled x) not' = refl
pin_kept b (Missed x) not' = refl
pin_kept b _ not' = refl

announcement_kept : (b : Brief) (r : Reply) → (noted_sight b r).announcement ≡ b.announcement
announcement_kept b (Pinned x) = refl
announcement_kept b (Saw x) = refl
announcement_kept b (Labelled x) = refl
announcement_kept b (Missed x) = refl
announcement_kept b _ = refl

search_kept : (s : Search) (r : Reply) → ((x : ℕ) → r ≡ Pinned x → ⊥) → begun s None r ≡ s
search_kept s (Pinned x) not' = absurd (not' x refl)
search_kept s _ not' = refl

known_kept : (w : ℕ) (k : Knowledge) (r : Reply) → ((x : ℕ) → r ≡ Pinned x → ⊥) → (learn w k Sight r).known ≡ k.known
unfolding learn
known_kept w k (Pinned x) not' = absurd (not' x refl)
known_kept w k (Saw x) not' = refl
known_kept w k (Labelled x) not' = refl
known_kept w k (Missed x) not' = refl
known_kept w k _ not' = refl

pub settles : (p q : PassView) (r : Reply) → Stepped p q Sight r → IsSight (epochs p) r → Settles p q
unfolding searched
settles p q r step s =
    let after = epochs_after p q Sight r step in
    record {
      labelled = ap (λ (b : Brief). b.unlabelled) after
          ∙ (ap (λ (x : Reply). (noted_sight (epochs p) x).unlabelled) s.2 ∙ is_labelled (epochs p) s.0);
      stays = λ settled. record {
        announcement = ap (λ (b : Brief). b.announcement) after ∙ announcement_kept (epochs p) r;
        pin = ap (λ (b : Brief). b.pin) after ∙ pin_kept (epochs p) r (never_pinned p r settled s);
        search = search_is p q Sight r step ∙ search_kept (search p) r (never_pinned p r settled s);
        known = ap (λ (k : Knowledge). k.known) (known_after_step p q Sight r step)
            ∙ known_kept p.view.number (knowledge p.view) r (never_pinned p r settled s);
      };
    }
