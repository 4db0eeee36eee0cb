-- `destroy_empty` ends a chain that owns nothing. Assumes `Logic`.
use mathlib.Core.Path.{◌≡◌, refl, sym, subst}
use mathlib.Core.List.{List, [], ◌∷◌, ◌++◌}
use seplogic.Ra.Ura.{Ura}
use mir.Syntax.{Fn}
use mir.MapTy.{inst_fn}
use mir.Val.{Val, vunit}
use base.Logic.{SProp, ent, emp}
use base.Fml.{ftrue}
use prog.Wp.{Calls, Loops, WpFn, Tables}
use types.Logic.{Logic}
use contract.Monad.{fact}
use contract.Running.{tables, tables_of}
use sound.WpLaws.{WpFn-mono}
use types.Kit.{⋆, ‵, ◌$◌, ◌∵◌, !, qed, by, move, keep, join, fsplit, fjoin, feq_i, suffices, done}
use types.Run.{unit_lit, of_opd, returns, enter}
use types.ByLocal.{alloc_all, pass_all, free_all, look_at, sets}
use denote.Exit.{no}
use denote.RattleType.{owns}
use denote.Builtin.{unit}
use denote.Signature.{plain}
use denote.Steps.{nothing}
use denote.Triple.Carry.{spared}
use denote.Triple.Clauses.{Clauses, Ended, closing}
use denote.Triple.Entry.{on_entry}
use denote.Triple.Spec.{Meets, triple_of}
use denote.Triple.Table.{entered, run_framed}
use denote.Triple.Walked.{needs, Stays, stay_dropped, walk_of, ends_at, walk_Meets}
use Rattle.core.proofs.mem.Param.{El}
use Rattle.core.proofs.alloc.Calls.{Al, Goes-blank}
use Rattle.core.proofs.slots.Leases.{args}
use Rattle.circular_buffer.proofs.Memory.{mark, mark_had}
use Rattle.nm_limbo.proofs.Memory.{Ch}
use Rattle.nm_limbo.specs.contracts.block.chain.Chain.destroy_empty.Key.{name as #self}
use Rattle.nm_limbo.proofs.block.chain.Chain.destroy_empty.Statement as stated
use Rattle.nm_limbo.proofs.block.chain.Chain.destroy_empty.Code as code

module _ (E : El) (Z : Al) where
  abbrev function : Fn
  function = inst_fn (args E Z) code.function

  abbrev ended : Ended
  ended = record {
    signature = record {
      lifetimes = 0;
      outlives = [];
      params = plain (λ _. Ch E Z)
          ∷ [];
      result = plain (λ _. unit);
    };
    kept = (no, tt);
  }

  abbrev stayed : Stays ended.signature.params ended.kept
  stayed = (stay_dropped (plain (λ _. Ch E Z)) no, tt)

  abbrev Asks : (Ch E Z).Denot → Type 0
  Asks d = d.blocks ≡ []

  abbrev spec : {M : Type 1} {𝓤 : Ura M} (𝓛 : Logic 𝓤) → Clauses 𝓤 ended
  spec {𝓤 = 𝓤} 𝓛 κs a = record { ghost = Unit {0}; requires = λ _. fact 𝓤 (Asks a.0); ensures = λ _ r w. emp 𝓤 }

module _ (E : El) (Z : Al) {M : Type 1} {𝓤 : Ura M} (𝓛 : Logic 𝓤) (C : Calls 𝓤 𝓛.H) (Λ : Loops 𝓤 𝓛.H)
    (d : (Ch E Z).Denot) (us0 : List Val) where
  open 𝓛 use {H, A}

  abbrev bound : (walk_of 𝓛 (ended E Z) (stayed E Z) (spec E Z 𝓛)).Ghost
  bound = ((tt, tt, tt, (d, tt), (us0, tt)), tt)

  abbrev Post : Val → SProp 𝓤
  Post = (walk_of 𝓛 (ended E Z) (stayed E Z) (spec E Z 𝓛)).post bound

  exits : ent 𝓤 (⋆ 𝓛 []) (Post vunit)
  exits =
      qed 𝓛 [] ∵
      suffices ! _ (ends_at 𝓛 (ended E Z) (stayed E Z) (spec E Z 𝓛) bound vunit tt (tt, tt) (tt, tt)) $
      feq_i ! (List Val) (vunit ∷ []) (vunit ∷ []) refl $ nothing ! $ nothing ! $ fjoin ! $ join ! $ nothing ! $ join
      ! $ nothing ! $ move ! (1 ∷ 0 ∷ []) $ done !

  walk : ent 𝓤 (⋆ 𝓛 []) (WpFn 𝓤 H C Λ (function E Z) (mark ∷ []) Post)
  walk =
      qed 𝓛 [] ∵ enter ! C Λ (function E Z) (mark ∷ []) _ $ alloc_all ! (λ l. pass_all ! refl ((tt, (tt, tt)), tt) $
      sets ! (of_opd ! (unit_lit !)) refl (tt, tt) $ returns ! (look_at ! 0 refl) $ free_all ! refl $ by ! exits)

  entry : Asks E Z d → ent 𝓤 (on_entry 𝓛 (ended E Z).signature tt tt (d, tt) (us0, tt))
      (WpFn 𝓤 H C Λ (function E Z) (us0 ++ []) Post)
  entry asked =
      qed 𝓛 (‵ ftrue ∷ ‵ (owns (Ch E Z ∷ []) (d, tt) (us0, tt)) ∷ []) ∵
      move ! (1 ∷ []) $ fsplit ! $ fsplit ! $ mark_had ! E us0 (λ e0. keep ! [] $
      by ! (subst (λ (ws : List Val). ent 𝓤 (⋆ 𝓛 []) (WpFn 𝓤 H C Λ (function E Z) (ws ++ []) Post)) (sym e0) walk))

meets : (E : El) (Z : Al) {M : Type 1} {𝓤 : Ura M} (𝓛 : Logic 𝓤) (𝓣 : Tables 𝓤 𝓛.H)
    → Meets 𝓛 (ended E Z).signature (WpFn 𝓤 𝓛.H 𝓣.C 𝓣.Λ (function E Z)) (closing 𝓛 (ended E Z) (spec E Z 𝓛))
meets E Z {𝓤 = 𝓤} 𝓛 𝓣 =
    walk_Meets 𝓛 (ended E Z) (stayed E Z) (Goes-blank 𝓛 0 (plain (λ _. Ch E Z)) no (λ κs x f. tt), tt) (spec E Z 𝓛)
    (WpFn 𝓤 𝓛.H 𝓣.C 𝓣.Λ (function E Z)) (WpFn-mono 𝓤 𝓛.H 𝓛.laws 𝓣 (function E Z))
    (λ z. needs 𝓤 (Asks E Z z.0.3.0) _ (entry E Z 𝓛 𝓣.C 𝓣.Λ z.0.3.0 z.0.4.0))

pub destroy_empty_spec : {M : Type 1} → stated.statement M
unfolding tables_of
destroy_empty_spec 𝓤 𝓛 𝓜 𝓡 wired X W LX LW g d dd met md y =
    let E : El = record { row = X; laws = LX } in
    let Z : Al = record { row = W; laws = LW; g = g; d = d; drops = dd } in
    let 𝓣 : Tables 𝓤 𝓛.H = tables_of 𝓤 𝓛.H 𝓜 (tables 𝓤 𝓛.H 𝓜 𝓡 𝓡.env) in
    let k = #self (args E Z) in
    spared 𝓛 (ended E Z).signature (𝓡.run (𝓡.env k)) (run_framed 𝓤 𝓛.H 𝓜 𝓡 (𝓡.env k)) 2 (X.lives, (W.lives, tt))
    (closing 𝓛 (ended E Z) (spec E Z 𝓛))
    (entered 𝓤 𝓛.H (triple_of 𝓛 (ended E Z).signature (closing 𝓛 (ended E Z) (spec E Z 𝓛))) 𝓣.C 𝓣.Λ k (function E Z)
    (code.unfolded 𝓤 𝓛.H 𝓜 𝓡 wired (X, (W, tt)) d dd) (meets E Z 𝓛 𝓣))
    ((y.0.0, y.0.1, tt, y.0.3, y.0.4), y.1)
