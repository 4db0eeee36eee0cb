-- What a worker knows of its slots after a step on the pool or on a private slot.
use Rattle.std.proofs.Common.{◌≡◌, ◌≢◌, ℕ, suc, ◌+◌, ◌-◌, ◌≤◌, eqb, Bool, true, false, true≢false, cond, List, [], ◌∷◌, refl, sym, ap, ◌∙◌, arith}
use Rattle.std.specs.Prelude.{Some, None, is_some, unwrap_or}
use Rattle.std.proofs.lemmas.Bool.{cond-true, cond-false, eq-eqb, ne_eqb, eqb-true}
use Rattle.std.specs.Ordering.{nat_cmp, is_eq}
use Rattle.nm_model.specs.declared.event.Event.TheVariants.{Claim, Give, Look, Fill}
use Rattle.nm_model.specs.declared.event.Field.TheVariants.{Birth}
use Rattle.nm_model.specs.declared.reply.Reply.TheVariants.{Claimed, Taken, Returned, BirthIs, Filled}
use Rattle.nm_model.specs.declared.knowledge.Draft.{Draft}
use Rattle.nm_model.specs.Maps.{get, put, without, has}
use Rattle.nm_model.specs.Knowledge.{Knowledge, unfilled, is_private, draft_of}
use Rattle.nm_model.specs.Learning.{filled_in, look_private, look_known}
use Rattle.nm_model.specs.Walks.{Entry}
use Rattle.nm_laws.proofs.Learned.{learn_claimed, learn_taken, learn_returned, learn_look, learn_filled}
use Rattle.nm_model.proofs.Tables.{get-put, at_eqb}
use Rattle.nm_steps.specs.Rules.{knowledge}
use Rattle.nm_steps.specs.Steps.{TreeView, PassView, IsOf, Stepped, IsSamePass}
use Rattle.nm_steps.proofs.Presence.{known_after_step}
use Rattle.nm_pool.specs.Claims.{Doing, DoneBelow, LearnsSlots}

-- ---- lists of slots

-- one slot more
pub one_more : (Done : Doing) (from s : ℕ) (old mid new : List Entry) → from ≤ s → DoneBelow Done from s old mid
    → Done s mid new → DoneBelow Done from (s + 1) old new
one_more Done from s old mid new le each here =
    let count : s + 1 - from ≡ suc (s - from) = omega arith in
    let last : from + (s - from) ≡ s = omega arith in
    rw count (mid, each, rw last here)

-- ---- what a step adds

abbrev with_draft : Knowledge → ℕ → Draft → Knowledge
with_draft k s d = record k { drafts = put k.drafts s d }

after_taken : (p q : PassView) (s : ℕ) → Stepped p q (Claim s) Taken → knowledge q.view ≡ knowledge p.view
after_taken p q s is = known_after_step p q (Claim s) Taken is ∙ learn_taken p.view.number (knowledge p.view) s

after_claimed : (p q : PassView) (s t : ℕ) → Stepped p q (Claim s) (Claimed t)
    → knowledge q.view ≡ with_draft (knowledge p.view) s unfilled
after_claimed p q s t is = known_after_step p q (Claim s) (Claimed t) is
    ∙ learn_claimed p.view.number (knowledge p.view) s t

after_returned : (p q : PassView) (s t : ℕ) → Stepped p q (Give s) (Returned t)
    → knowledge q.view ≡ record (knowledge p.view) { drafts = without (knowledge p.view).drafts s }
after_returned p q s t is = known_after_step p q (Give s) (Returned t) is
    ∙ learn_returned p.view.number (knowledge p.view) s t

after_look : (p q : PassView) (s b : ℕ) → is_private (knowledge p.view) s ≡ true
    → Stepped p q (Look s Birth) (BirthIs b)
    → knowledge q.view ≡ with_draft (knowledge p.view) s (record (draft_of (knowledge p.view) s) { looked = Some b })
after_look p q s b own is =
    known_after_step p q (Look s Birth) (BirthIs b) is
    ∙ (learn_look p.view.number (knowledge p.view) s Birth (BirthIs b)
    ∙ cond-true (is_private (knowledge p.view) s) (look_private (knowledge p.view) s Birth (BirthIs b))
    (look_known (knowledge p.view) s Birth (BirthIs b)) own)

after_filled : (p q : PassView) (s v : ℕ) → Stepped p q (Fill s Birth v) Filled
    → knowledge q.view ≡ with_draft (knowledge p.view) s (filled_in (draft_of (knowledge p.view) s) Birth v)
after_filled p q s v is = known_after_step p q (Fill s Birth v) Filled is
    ∙ learn_filled p.view.number (knowledge p.view) s Birth v

-- ---- the layout

-- a slot of the table's range is one of the pass's
pub within_pass : (b : TreeView) (p q : PassView) (s : ℕ) → IsOf b p → IsSamePass p q → s ≤ b.layout.nodes
    → s ≤ q.view.layout.nodes
within_pass b p q s own same most = rw (ap (λ (x : PassView). x.view.layout) same ∙ own.layout) most

-- ---- drafts

-- the slot is private, and this is known of it
abbrev pub HasDraft : Knowledge → ℕ → Draft → Type 0
HasDraft k s d = get k.drafts s ≡ Some d

pub put_there : (m : List (ℕ × Draft)) (s : ℕ) (d : Draft) → get (put m s d) s ≡ Some d
put_there m s d = get-put m s d s ∙ cond-true _ (Some d) (get m s) (eq-eqb s s refl)

pub private_of : (k : Knowledge) (s : ℕ) (d : Draft) → HasDraft k s d → is_private k s ≡ true
private_of k s d is = ap is_some is

draft_is : (k : Knowledge) (s : ℕ) (d : Draft) → HasDraft k s d → draft_of k s ≡ d
draft_is k s d is = ap (λ o. unwrap_or o unfilled) is

has_draft : (k l : Knowledge) (s : ℕ) (d : Draft) → l ≡ with_draft k s d → HasDraft l s d
has_draft k l s d is = ap (λ (x : Knowledge). get x.drafts s) is ∙ put_there k.drafts s d

abbrev pub looked_at : ℕ → Draft
looked_at b = record unfilled { looked = Some b }

pub claimed_draft : (p q : PassView) (s t : ℕ) → Stepped p q (Claim s) (Claimed t)
    → HasDraft (knowledge q.view) s unfilled
claimed_draft p q s t is = has_draft (knowledge p.view) (knowledge q.view) s unfilled (after_claimed p q s t is)

pub looked_draft : (p q : PassView) (s b : ℕ) → HasDraft (knowledge p.view) s unfilled
    → Stepped p q (Look s Birth) (BirthIs b) → HasDraft (knowledge q.view) s (looked_at b)
looked_draft p q s b had is =
    has_draft (knowledge p.view) (knowledge q.view) s (looked_at b)
    (after_look p q s b (private_of (knowledge p.view) s unfilled had) is
    ∙ ap (λ (d : Draft). with_draft (knowledge p.view) s (record d { looked = Some b }))
    (draft_is (knowledge p.view) s unfilled had))

pub filled_draft : (p q : PassView) (s b v : ℕ) → HasDraft (knowledge p.view) s (looked_at b)
    → Stepped p q (Fill s Birth v) Filled → HasDraft (knowledge q.view) s (record unfilled { birth = Some v })
filled_draft p q s b v had is =
    has_draft (knowledge p.view) (knowledge q.view) s (record unfilled { birth = Some v })
    (after_filled p q s v is ∙ ap (λ (d : Draft). with_draft (knowledge p.view) s (filled_in d Birth v))
    (draft_is (knowledge p.view) s (looked_at b) had))

pub looked_is : (k : Knowledge) (s b : ℕ) → HasDraft k s (looked_at b) → (draft_of k s).looked ≡ Some b
looked_is k s b has = ap (λ (d : Draft). d.looked) (draft_is k s (looked_at b) has)

pub unborn_is : (k : Knowledge) (s b : ℕ) → HasDraft k s (looked_at b) → (draft_of k s).birth ≡ None
unborn_is k s b has = ap (λ (d : Draft). d.birth) (draft_is k s (looked_at b) has)

-- ---- nothing but slots is learned

-- what a key has is not changed by the removal of another
without_other : (m : List (ℕ × Draft)) (s q : ℕ) → q ≢ s → get (without m s) q ≡ get m q
without_other [] s q ne = refl
without_other (e ∷ es) s q ne = by (is_eq (nat_cmp s e.0)) (at_eqb s e.0) (without_other es s q ne)
  where
    by : (b : Bool) → b ≡ eqb s e.0 → get (without es s) q ≡ get es q
        → get (cond b es (e ∷ without es s)) q ≡ get (e ∷ es) q
    by true is later = sym (ap (λ (b : Bool). cond b (Some e.1) (get es q)) (at_eqb q e.0)
        ∙ cond-false (eqb q e.0) (Some e.1) (get es q) (ne_eqb q e.0 (λ at. ne (at ∙ sym (eqb-true s e.0 (sym is))))))
    by false is later = ap (cond (is_eq (nat_cmp q e.0)) (Some e.1)) later

pub put_another : (m : List (ℕ × Draft)) (s : ℕ) (d : Draft) (q : ℕ) → q ≢ s → get (put m s d) q ≡ get m q
put_another m s d q ne = get-put m s d q ∙ cond-false (eqb q s) (Some d) (get m q) (ne_eqb q s ne)

-- nothing but one slot was learned
pub record LearnsOf (t : ℕ) (before after : Knowledge) : Type 0 where
  pub brief : after.brief ≡ before.brief
  pub scanned : after.scanned ≡ before.scanned
  pub known : after.known ≡ before.known
  pub ledgers : after.ledgers ≡ before.ledgers
  pub gone : after.gone ≡ before.gone
  pub others : (s : ℕ) → s ≢ t → get after.drafts s ≡ get before.drafts s

learns_drafts : (t : ℕ) (k l : Knowledge) (m : List (ℕ × Draft)) → l ≡ record k { drafts = m }
    → ((s : ℕ) → s ≢ t → get m s ≡ get k.drafts s) → LearnsOf t k l
learns_drafts t k l m is others = record {
  brief = ap (λ (x : Knowledge). x.brief) is;
  scanned = ap (λ (x : Knowledge). x.scanned) is;
  known = ap (λ (x : Knowledge). x.known) is;
  ledgers = ap (λ (x : Knowledge). x.ledgers) is;
  gone = ap (λ (x : Knowledge). x.gone) is;
  others = λ s ne. ap (λ (x : Knowledge). get x.drafts s) is ∙ others s ne;
}

learns_put : (t : ℕ) (k l : Knowledge) (d : Draft) → l ≡ with_draft k t d → LearnsOf t k l
learns_put t k l d is = learns_drafts t k l (put k.drafts t d) is (put_another k.drafts t d)

pub learns_claim : (p q : PassView) (s t : ℕ) → Stepped p q (Claim s) (Claimed t)
    → LearnsOf s (knowledge p.view) (knowledge q.view)
learns_claim p q s t is = learns_put s (knowledge p.view) (knowledge q.view) _ (after_claimed p q s t is)

pub learns_give : (p q : PassView) (s t : ℕ) → Stepped p q (Give s) (Returned t)
    → LearnsOf s (knowledge p.view) (knowledge q.view)
learns_give p q s t is = learns_drafts s (knowledge p.view) (knowledge q.view) _ (after_returned p q s t is)
    (without_other (knowledge p.view).drafts s)

pub learns_look : (p q : PassView) (s b : ℕ) → is_private (knowledge p.view) s ≡ true
    → Stepped p q (Look s Birth) (BirthIs b) → LearnsOf s (knowledge p.view) (knowledge q.view)
learns_look p q s b own is = learns_put s (knowledge p.view) (knowledge q.view) _ (after_look p q s b own is)

pub learns_fill : (p q : PassView) (s v : ℕ) → Stepped p q (Fill s Birth v) Filled
    → LearnsOf s (knowledge p.view) (knowledge q.view)
learns_fill p q s v is = learns_put s (knowledge p.view) (knowledge q.view) _ (after_filled p q s v is)

pub of_both : (t : ℕ) (k l m : Knowledge) → LearnsOf t k l → LearnsOf t l m → LearnsOf t k m
of_both t k l m a b = record {
  brief = b.brief ∙ a.brief;
  scanned = b.scanned ∙ a.scanned;
  known = b.known ∙ a.known;
  ledgers = b.ledgers ∙ a.ledgers;
  gone = b.gone ∙ a.gone;
  others = λ s ne. b.others s ne ∙ a.others s ne;
}

-- where that slot was not private before, each private one is kept
pub learns_of : (t : ℕ) (k l : Knowledge) → is_private k t ≡ false → LearnsOf t k l → LearnsSlots k l
learns_of t k l new a = record {
  brief = a.brief;
  scanned = a.scanned;
  known = a.known;
  ledgers = a.ledgers;
  gone = a.gone;
  kept = λ s own. a.others s (λ at. true≢false (sym own ∙ (ap (is_private k) at ∙ new)));
}

pub learns_taken : (p q : PassView) (s : ℕ) → Stepped p q (Claim s) Taken
    → LearnsSlots (knowledge p.view) (knowledge q.view)
learns_taken p q s step =
    let is : knowledge q.view ≡ knowledge p.view = after_taken p q s step in
    record {
      brief = ap (λ (x : Knowledge). x.brief) is;
      scanned = ap (λ (x : Knowledge). x.scanned) is;
      known = ap (λ (x : Knowledge). x.known) is;
      ledgers = ap (λ (x : Knowledge). x.ledgers) is;
      gone = ap (λ (x : Knowledge). x.gone) is;
      kept = λ s own. ap (λ (x : Knowledge). get x.drafts s) is;
    }

pub learns_both : (k l m : Knowledge) → LearnsSlots k l → LearnsSlots l m → LearnsSlots k m
learns_both k l m a b = record {
  brief = b.brief ∙ a.brief;
  scanned = b.scanned ∙ a.scanned;
  known = b.known ∙ a.known;
  ledgers = b.ledgers ∙ a.ledgers;
  gone = b.gone ∙ a.gone;
  kept = λ s own. b.kept s (ap is_some (a.kept s own) ∙ own) ∙ a.kept s own;
}
