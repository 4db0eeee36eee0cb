use Rattle.std.proofs.Common.{◌^◌, List, [], ◌∷◌, refl, lit<, w64}
use mir.Syntax.{named}
use mir.Val.{Val, vint, vptr}
use base.Fraction.{full_share}
use base.Logic.{SProp, via}
use base.Fml.{ftrue, flft}
use types.Kit.{‵, raw, ◌⊛◌, mean, at_ret, ◌$◌, ◌∵◌, !, qed, done, move, keep, drop, use1, split, join, fsplit, fsplit3, fjoin, fpick, feq_i, flt_i, suffices, frame, group}
use types.Run.{enter, of_opd, addr, lit, stop, no_more, and_then, first, blocks, exec, Calls-last, returns}
use types.ByLocal.{alloc_all, pass_all, free_all, look_at, get, through, sets, lands_last, env}
use types.Part.{agg}
use contract.Running.{tables}
use denote.Builtin.{u64}
use denote.Exit.{yes}
use denote.Plain.{uint_Makes, uint_vals, uint_Tells}
use denote.RawPtr.{block_ptr}
use denote.Ref.{MutRef, mut_vals, mut_Tells}
use denote.Signature.{plain}
use denote.Steps.{nothing, owned, opens, closes, tied}
use denote.Triple.Walked.{Stays, walk_of, says, stay_ref, Goes-ref, stay_dropped, Goes-dropped, ends_at}
use Rattle.core.proofs.atomic.Steps.{tail}
use Rattle.std.proofs.raw_atomic.Calls.{fm, seq_cst, found, finds, swaps}
use Rattle.std.proofs.raw_atomic.Walks.{proved}
use Rattle.nm_set_c.proofs.Swaps.{swapped, swaps_own}
use Rattle.nm_set_c.specs.contracts.word.swap as f
use Rattle.nm_set_c.proofs.word.swap.Statement.{statement}
use Rattle.nm_set_c.proofs.word.swap.Code as code

abbrev stayed : Stays f.ended.signature.params f.ended.kept
stayed = (stay_ref (0 ∷ []) tt (plain (λ _. u64)), (stay_dropped (plain (λ _. u64)) yes, tt))

pub swap_spec : {M : Type 1} → statement M
swap_spec 𝓤 𝓛 𝓜 𝓡 wired =
    let c = f.clauses 𝓛 𝓜.mem 𝓡.returns in let W = walk_of 𝓛 f.ended stayed c in let 𝓣 = tables 𝓤 𝓛.H 𝓜 𝓡 𝓡.env in
    let fn = code.function in
    proved 𝓛 f.ended stayed c 𝓜 𝓡 (
      Goes-ref 𝓛 1 0 tt (plain (λ _. u64)),
      (Goes-dropped 𝓛 1 (plain (λ _. u64)) yes (λ κs x w. refl), tt),
    )
    f.Key.name fn (code.unfolded 𝓤 𝓛.H 𝓜 𝓡 wired)
    (λ κs. (mut_vals, (uint_vals w64, tt))) (λ κs. (mut_Tells (named 0) κs.0 u64, (uint_Tells w64, tt)))
    (λ κs qs bounds a _ are.
    let κ = κs.0 in let q = qs.0 in let r = a.0 in let new = a.1.0 in let b = r.ref_ptr.0 in let o = r.ref_ptr.1 in
    let n = r.now in let vs = mut_vals r in
    let fits = are.1.0.1 in
    let y : W.Ghost = ((κs, qs, bounds, a, (vs, (uint_vals w64 new, tt))), tt) in let Post : Val → SProp 𝓤 = W.post y in
    qed 𝓛 (((‵ (flft κ q) ⊛ ‵ ftrue) ⊛ ‵ ((MutRef (named 0) κ u64).own_val r vs) ⊛
    (‵ (u64.own_val new (uint_vals w64 new)) ⊛ ‵ ftrue)) ∷ ‵ ftrue ∷ []) ∵
    split ! $ split ! $ move ! (2 ∷ []) $ split ! $ keep ! (0 ∷ 2 ∷ []) $
    enter ! _ _ _ _ _ $ alloc_all ! (λ l. pass_all ! refl ((tt, tt), ((tt, record { fits = fits }), tt)) $
    let Ev = env fn.locals l in
    fsplit3 ! $ move ! (1 ∷ 2 ∷ 3 ∷ []) $ opens ! tt u64 b o (λ us. tied ! full_share u64.mir us b o $
    first ! $ blocks ! $ sets ! (addr ! (through ! refl (stop !))) refl (tt, tt) $
    use1 𝓛 (raw (𝓣.C _ (vptr b o ∷ vint w64 new ∷ seq_cst ∷ []) (λ u. mean 𝓛 (found (swapped b o n new) u))))
    (via 𝓤 _ (swaps_own 𝓛 b o n new) (swaps 𝓛 𝓜 𝓡 (code.calls-core::raw_atomic::swap 𝓡.env wired) (block_ptr b o)
    new fits (swapped b o n new))) $
    sets ! (agg ! (and_then ! (lit ! tt) (no_more !))) refl (tt, (record { fits = lit< tt }, tt)) $
    Calls-last ! (fm 𝓛 𝓜 𝓡) (found (swapped b o n new))
    (and_then ! (get ! refl) (and_then ! (get ! refl) (and_then ! (get ! refl) (no_more !))))
    (λ u. finds ! (swapped b o n new) (λ m small.
    lands_last ! refl (tt, record { fits = small }) $ exec ! 𝓣.C 𝓣.Λ Ev (tail fn.body) (at_ret Ev Post) $ sets !
    (of_opd ! (get ! refl)) refl (tt, record { fits = small }) $
    fsplit ! $ move ! (1 ∷ []) $ fpick ! (λ same. drop ! $
    move ! (1 ∷ []) $ drop ! $ flt_i ! new (2 ^ 64) fits $ feq_i ! (List Val) (vint w64 new ∷ []) (vint w64 new ∷ [])
    refl $ fjoin ! $ move ! (1 ∷ 0 ∷ []) $
    closes ! tt u64 new (vint w64 new ∷ []) b o $
    returns ! (look_at ! 0 refl) $ free_all ! refl $ keep ! (3 ∷ 0 ∷ 1 ∷ 2 ∷ []) $
    suffices ! _ (ends_at 𝓛 f.ended stayed c y (vint w64 m) m (new, (tt, tt)) (tt, (tt, tt))) $ says ! (same, refl) $
    group ! 3 $ nothing ! $ nothing ! $ join ! $ move ! (1 ∷ 0 ∷ []) $ join ! $ nothing ! $ move ! (2 ∷ 0 ∷ []) $
    join ! $ frame ! $ frame ! $
    owned ! u64 _ (uint_Makes 𝓛 w64) m _ (refl, small) $ done !))))))
