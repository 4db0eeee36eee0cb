-- A worker may claim a slot of the pool's range, and of a private one look at the birth, raise it,
-- and give the slot back.
use Rattle.std.proofs.Common.{◌≡◌, ℕ, ◌+◌, ◌≤◌, ◌<◌, ◌==◌, Bool, true, false, not, ◌||◌, ◌&&◌, cond, List, [], refl, ap, ◌∙◌, arith}
use Rattle.std.specs.Prelude.{Option, Some, None, is_some, is_none}
use Rattle.std.proofs.lemmas.Bool.{eq-eqb, ne_eqb}
use Rattle.nm_edge.specs.Layouts.{Layout}
use Rattle.nm_model.specs.declared.event.Event.TheVariants.{Claim, Give, Look, Fill}
use Rattle.nm_model.specs.declared.event.Field.TheVariants.{Birth}
use Rattle.nm_model.specs.declared.reply.Refused.TheVariants.{NoSlot, NotPinned, NotHeld, NotPrivate, NotReady, Spent}
use Rattle.nm_model.specs.Memory.{node}
use Rattle.nm_model.specs.Knowledge.{Knowledge, knows, is_private, draft_of}
use Rattle.nm_model.specs.Step.{refusal, outside, last_number, free_checks, first, is_early}
use Rattle.nm_model.specs.Walks.{Entry}
use Rattle.nm_order.specs.Logs.{known_by}
use Rattle.nm_model.proofs.Checks.{not_outside, passes_then}
use Rattle.nm_steps.specs.Steps.{May}

module _ (L : Layout) (w : ℕ) (log : List Entry) (s : ℕ) (least : 6 ≤ s) (most : s ≤ L.nodes) where
  abbrev k : Knowledge
  k = known_by L w log

  pub may_claim : May L w log (Claim s)
  unfolding refusal
  may_claim = record {
    looked = tt;
    allowed = λ m h. passes_then (outside 6 L.nodes s) NoSlot None (not_outside 6 L.nodes s least most) refl;
    ordered = refl;
    births = tt;
    key = tt;
  }

  module _ (own : is_private k s ≡ true) where
    others : (b : Bool) → (not (is_private k s) && b) ≡ false
    others b = ap (λ (x : Bool). not x && b) own

    pub may_give : May L w log (Give s)
    unfolding refusal
    may_give = record {
      looked = tt;
      allowed = λ m h. passes_then (outside 6 L.nodes s) NoSlot (first (cond (is_private k s) [] (free_checks k s)))
          (not_outside 6 L.nodes s least most) (ap (λ (x : Bool). first (cond x [] (free_checks k s))) own);
      ordered = refl;
      births = tt;
      key = tt;
    }

    pub may_look : May L w log (Look s Birth)
    unfolding refusal
    may_look = record {
      looked = tt;
      allowed = λ m h. passes_then (outside 1 L.nodes s) NoSlot _ (not_outside 1 L.nodes s (omega arith) most)
          (passes_then (not (is_private k s) && is_none k.brief.pin) NotPinned _ (others (is_none k.brief.pin))
          (passes_then (not (is_private k s) && not (knows k s)) NotHeld None (others (not (knows k s))) refl));
      ordered = refl;
      births = tt;
      key = tt;
    }

    module _ (b : ℕ) (looked : (draft_of k s).looked ≡ Some b) (unborn : (draft_of k s).birth ≡ None)
        (below : b < last_number) where
      in_time : (n : ℕ) → n ≡ b → is_early (draft_of k s) Birth (b + 1) n ≡ false
      in_time n is = ap (λ (o : Option ℕ). is_some o || not (b + 1 == n + 1)) unborn
          ∙ ap not (eq-eqb (b + 1) (n + 1) (omega arith))

      unspent : (n : ℕ) → n ≡ b → (n == last_number) ≡ false
      unspent n is = ne_eqb n last_number (λ at. let less = below in omega arith)

      pub may_raise : May L w log (Fill s Birth (b + 1))
      unfolding refusal
      may_raise = record {
        looked = ap is_some looked;
        allowed = λ m h. passes_then (outside 6 L.nodes s || false) NoSlot _
            (ap (λ (x : Bool). x || false) (not_outside 6 L.nodes s least most))
            (passes_then (not (is_private k s)) NotPrivate _ (ap not own)
            (passes_then (is_early (draft_of k s) Birth (b + 1) (node m s).birth) NotReady _
            (in_time (node m s).birth (h b looked))
            (passes_then ((node m s).birth == last_number) Spent None (unspent (node m s).birth (h b looked)) refl)));
        ordered = refl;
        births = tt;
        key = tt;
      }
