-- What a sight answers: the epoch is no greater than the greatest, and the rest is told by the
-- worker's own epochs.
use Rattle.std.proofs.Common.{◌≡◌, ◌≢◌, ◌==◌, ◌≤◌, ℕ, Bool, cond, false, refl, sym, subst, ap, ◌∙◌, eq-eqb}
use Rattle.std.specs.Prelude.{Option, Some, None, IfSome}
use Rattle.std.proofs.lemmas.Bool.{cond_both, ne_eqb}
use Rattle.atomic_table.specs.declared.shared.Seat.{Seat}
use Rattle.nm_model.specs.declared.knowledge.Brief.{Brief}
use Rattle.nm_model.specs.declared.reply.Reply.{Reply}
use Rattle.nm_edge.specs.Layouts.{Layout}
use Rattle.nm_model.specs.declared.event.Op.{Op}
use Rattle.nm_model.specs.declared.event.Event.TheVariants.{Sight, SightFor}
use Rattle.nm_model.specs.declared.reply.Reply.TheVariants.{Labelled, Pinned, Missed}
use Rattle.nm_model.specs.Knowledge.{Knowledge}
use Rattle.nm_model.specs.Step.{last_number, confirmed}
use Rattle.nm_steps.specs.declared.view.View.{View}
use Rattle.nm_steps.specs.Steps.{Tied, IsSight, noted_sight, sight_of}
use Rattle.nm_steps.proofs.Noting.{noted}
use Rattle.nm_steps.specs.Told.{told}

seen_confirmed : (b : Brief) (pin announced : Option ℕ) (n : ℕ)
    → (noted_sight b (confirmed pin announced n)).seen ≡ Some n
seen_confirmed b (Some p) announced n = refl
seen_confirmed b None None n = refl
seen_confirmed b None (Some a) n = cond_both (a == n) (Pinned n) (Missed n) (λ r. (noted_sight b r).seen ≡ Some n)
    (λ _. refl) (λ _. refl)

pub seen_sighted : (b : Brief) (n : ℕ) → (noted_sight b (sight_of b n)).seen ≡ Some n
seen_sighted b n = cond_both b.unlabelled (Labelled n) (confirmed b.pin b.announcement n)
    (λ r. (noted_sight b r).seen ≡ Some n) (λ _. refl) (λ _. seen_confirmed b b.pin b.announcement n)

pub sight_answers : (after : Seat Unit View) (number announcement : ℕ) (brief new old : Brief) (r : Reply) (n : ℕ)
    → Tied after number announcement new → new ≡ noted_sight brief r → r ≡ sight_of brief n → brief ≡ old
    → IsSight old r
sight_answers after number announcement brief new old r n tied is reply same = (
  n,
  subst (λ (o : Option ℕ). IfSome o (λ e. e ≤ last_number))
      (ap (λ (b : Brief). b.seen) is ∙ (ap (λ (x : Reply). (noted_sight brief x).seen) reply ∙ seen_sighted brief n))
      tied.small,
  reply ∙ ap (λ (b : Brief). sight_of b n) same,
)

-- ---- by a worker whose standing is known

-- with no pin and no cut that waits for a label, by what is announced
by_announcement : (b : Brief) (o : Option ℕ) (n : ℕ) → b.pin ≡ None → b.announcement ≡ o → b.unlabelled ≡ false
    → sight_of b n ≡ confirmed None o n
by_announcement b o n unpinned announcement labelled =
    ap (λ (x : Bool). cond x (Labelled n) (confirmed b.pin b.announcement n)) labelled
    ∙ (ap (λ (p : Option ℕ). confirmed p b.announcement n) unpinned
    ∙ ap (λ (a : Option ℕ). confirmed None a n) announcement)

pub noted_idle : (L : Layout) (k : Knowledge) (births : ℕ → Option ℕ) (b : Brief) (n : ℕ) → b ≡ k.brief
    → k.brief.pin ≡ None → k.brief.announcement ≡ None → k.brief.unlabelled ≡ false
    → record b { seen = Some n } ≡ noted b Sight (told L k births Sight n)
noted_idle L k births b n same unpinned silent labelled = sym
    (ap (noted b Sight) (by_announcement k.brief None n unpinned silent labelled))

at_announcement : (a n : ℕ) → n ≡ a → confirmed None (Some a) n ≡ Pinned n
at_announcement a n same = ap (λ (x : Bool). cond x (Pinned n) (Missed n)) (eq-eqb a n (sym same))

off_announcement : (a n : ℕ) → n ≢ a → confirmed None (Some a) n ≡ Missed n
off_announcement a n other = ap (λ (x : Bool). cond x (Pinned n) (Missed n)) (ne_eqb a n (λ e. other (sym e)))

pub noted_pin : (L : Layout) (k : Knowledge) (births : ℕ → Option ℕ) (op : Op) (key : ℕ) (b : Brief) (a n : ℕ)
    → b ≡ k.brief → k.brief.pin ≡ None → k.brief.announcement ≡ Some a → k.brief.unlabelled ≡ false → n ≡ a
    → record b { seen = Some n; pin = Some n } ≡ noted b (SightFor op key) (told L k births (SightFor op key) n)
noted_pin L k births op key b a n same unpinned announcement labelled found = sym
    (ap (noted b (SightFor op key)) (by_announcement k.brief (Some a) n unpinned announcement labelled
    ∙ at_announcement a n found))

pub noted_miss : (L : Layout) (k : Knowledge) (births : ℕ → Option ℕ) (op : Op) (key : ℕ) (b : Brief) (a n : ℕ)
    → b ≡ k.brief → k.brief.pin ≡ None → k.brief.announcement ≡ Some a → k.brief.unlabelled ≡ false → n ≢ a
    → record b { seen = Some n } ≡ noted b (SightFor op key) (told L k births (SightFor op key) n)
noted_miss L k births op key b a n same unpinned announcement labelled found = sym
    (ap (noted b (SightFor op key)) (by_announcement k.brief (Some a) n unpinned announcement labelled
    ∙ off_announcement a n found))
