-- A link that is won names its new node with the birth in its slot: the birth was stored, since a
-- key was.
use Rattle.std.proofs.Common.{◌≡◌, ℕ, Bool, true, false, cond, ◌||◌, refl, sym, ap, ◌∙◌, true≢false}
use Rattle.std.specs.Prelude.{Option, Some, None, is_some, unwrap_or, Ok}
use Rattle.std.proofs.lemmas.Bool.{and_parts}
use Rattle.nm_edge.specs.Edges.{is_to}
use Rattle.nm_model.specs.declared.event.Event.TheVariants.{Link}
use Rattle.nm_model.specs.declared.reply.Reply.TheVariants.{Linked, Lost}
use Rattle.nm_model.specs.declared.reply.Refused.{Refused}
use Rattle.nm_model.specs.declared.knowledge.Draft.{Draft}
use Rattle.nm_model.specs.Maps.{get, is_number}
use Rattle.nm_model.specs.Memory.{edge, named}
use Rattle.nm_model.specs.Knowledge.{draft_of, unfilled, beside}
use Rattle.nm_model.specs.Step.{node_linked, is_fork_over, is_leaf_draft, reply}
use Rattle.nm_model.specs.Runs.{State, of, start, after, outcome, answered, refused, reply_of}
use Rattle.nm_model.specs.Laws.{OfEachState}
use Rattle.nm_model.specs.Lawful.{EachBirthStands}
use Rattle.nm_laws.proofs.Steps.{allowed}
use Rattle.nm_laws.proofs.TreeSteps.{link_checked}
use Rattle.nm_laws.proofs.Births.{BornFirst}
use Rattle.nm_laws.proofs.KnownBirths.{each_birth_stands}
use Rattle.nm_laws.proofs.Once.{sound}
use Rattle.nm_laws.proofs.Outcomes.{same_reply, no_reply}
use Rattle.nm_order.specs.NewNodes.{LinksNameNewNodes}

module _ (s : State) (births : EachBirthStands s) (born : (w : ℕ) → BornFirst (of s w)) where
  -- a private slot whose key was stored has its birth stored, and so it stands
  birth_is : (w x : ℕ) → is_some (draft_of (of s w) x).key ≡ true → node_linked (of s w) x ≡ named s.memory x
  birth_is w x keyed = go (get (of s w).drafts x) refl
    where
      go : (o : Option Draft) → get (of s w).drafts x ≡ o → node_linked (of s w) x ≡ named s.memory x
      go None is = absurd (true≢false (sym keyed ∙ ap (λ (o : Option Draft). is_some (unwrap_or o unfilled).key) is))
      go (Some d) is = by d.birth refl
        where
          by : (b : Option ℕ) → d.birth ≡ b → node_linked (of s w) x ≡ named s.memory x
          by None none = absurd (true≢false (sym keyed
              ∙ (ap (λ (o : Option Draft). is_some (unwrap_or o unfilled).key) is ∙ ap is_some (born w x d is none))))
          by (Some b) some =
              let stored : (draft_of (of s w) x).birth ≡ Some b = ap
              (λ (o : Option Draft). (unwrap_or o unfilled).birth) is ∙ some in
              let birth = ap (λ (o : Option ℕ). unwrap_or o 0) stored ∙ sym ((births w).stored x b stored) in
              λ i. record { slot = x; birth = birth i }

  links_name : LinksNameNewNodes s
  unfolding outcome reply
  links_name w p d leaf new n is = go (refused s w (Link p d leaf new)) refl is
    where
      go : (o : Option Refused) → refused s w (Link p d leaf new) ≡ o
          → answered o (reply_of s w (Link p d leaf new)) ≡ Ok (Linked n) → n ≡ named s.memory new
      go (Some x) why is = absurd (no_reply x (Linked n) is)
      go None why is = by (is_to (edge s.memory p d) leaf) (same_reply _ (Linked n) is)
        where
          keyed : is_some (draft_of (of s w) new).key ≡ true
          keyed = let ready = (link_checked s w p d leaf new (allowed s w (Link p d leaf new) why).event).ready in
              (and_parts (is_some (draft_of (of s w) new).key)
              (is_number (draft_of (of s w) new).left leaf || is_number (draft_of (of s w) new).right leaf)
              (and_parts (is_fork_over (draft_of (of s w) new) leaf)
              (is_leaf_draft (of s w) (unwrap_or (beside (draft_of (of s w) new) leaf) 0)) ready).0).0

          by : (b : Bool) → cond b (Linked (node_linked (of s w) new)) (Lost (edge s.memory p d)) ≡ Linked n
              → n ≡ named s.memory new
          by true e = same_node e ∙ birth_is w new keyed
            where
              same_node : Linked (node_linked (of s w) new) ≡ Linked n → n ≡ node_linked (of s w) new
              same_node e = cc
          by false e = absurd (lost e)
            where
              lost : Lost (edge s.memory p d) ≡ Linked n → ⊥
              lost e = cc

pub links_name_new_nodes : OfEachState LinksNameNewNodes
links_name_new_nodes L enough turns = links_name (after (start L) turns) (each_birth_stands L enough turns)
    (sound L enough turns).once.born
