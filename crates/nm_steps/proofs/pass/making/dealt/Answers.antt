use Rattle.std.proofs.Common.{rules, ◌∙◌, ap, length, arith, refl}
use Rattle.nm_steps.proofs.Cutting.{deals, left_others, left_own, fresh_push}
use Rattle.nm_steps.proofs.FreshPasses.{left_all, fresh_tied}
use Rattle.nm_steps.proofs.pass.making.dealt.Goals as goal

pub loop-number-init : goal.loop-number-init
loop-number-init c = record {
  end = c.workers-workers.ensures.workers;
  fits = c.workers-workers.ensures.fits;
  table = c.requires.table;
  key = c.requires.key;
  words_are = c.requires.words;
  kind = c.requires.kind;
  same_table = refl;
  view = left_all c.args.layout _ c.requires.view;
  empty = c.requires.empty;
  count = ap length c.new-passes.ensures.items;
  fresh = rw c.new-passes.ensures.items tt;
}

pub split_seat-own-requires : goal.split_seat-own-requires
split_seat-own-requires c =
    let h = c.loop-number.invariant in (
      h.table,
      (let many = h.words_are in omega (arith, many)),
      rw h.key
          (deals c.args.layout _ c.loop-number.number _ h.view (rw h.end at c.loop-number-test.true)),
    )

pub invariant_of-push : goal.invariant_of-push
invariant_of-push c =
    let h = c.loop-number.invariant in
    let me = c.split_seat-own.ensures.4 in
    fresh_tied c.args.layout _ c.loop-number.number _ h.fits (rw h.end at c.loop-number-test.true)
    c.announcement.ensures (ap (λ m. m.0) me ∙ left_own c.args.layout c.loop-number.number _ h.view
    (rw h.end at c.loop-number-test.true)) (ap (λ m. m.1) me)

pub loop-number-preserved : goal.loop-number-preserved
loop-number-preserved c =
    let h = c.loop-number.invariant in
    let s = c.split_seat-own.ensures in
    let below = rw h.end at c.loop-number-test.true in
    let items = c.in_ok-push.ensures.items in
    record {
      end = h.end;
      fits = h.fits;
      table = s.0 ∙ h.table;
      key = h.key;
      words_are = h.words_are;
      same_table = h.same_table;
      kind = h.kind;
      view = ap (λ m. m.0) s.2 ∙ left_others c.args.layout c.loop-number.number _ h.view below;
      empty = ap (λ m. m.1) s.2 ∙ h.empty;
      count = search rules;
      fresh = rw items (fresh_push _ 0 c.loop-number.number _ _ h.fresh (omega (arith, h.count)) (s.3 ∙ h.table)
          (ap (λ m. m.0) s.4 ∙ left_own c.args.layout c.loop-number.number _ h.view below));
    }
