-- What a reader that was told of a put gets, under a pin that may be older.
use Rattle.std.proofs.Common.{◌≡◌, ◌<◌, ◌+◌, ℕ, List, [], ◌∷◌, ◌++◌, length, length-append, ap, arith}
use Rattle.std.specs.Prelude.{Option}
use Rattle.nm_model.specs.declared.trace.Turn.{Turn}
use Rattle.nm_steps.specs.Steps.{HasSeenAllOf, PassView}
use Rattle.nm_calls.specs.Maps.{HasPut, MapGaveUnderPin}
use Rattle.nm_callers.specs.Mapping.{GotAfterPut}

pub got_after_put : (p writer asked reader : PassView) (k v : ℕ) (found : Option ℕ) → HasPut p writer k v
    → HasSeenAllOf asked writer → HasSeenAllOf reader asked → MapGaveUnderPin asked reader k found
    → GotAfterPut p writer reader k v found
got_after_put p writer asked reader k v found put heard on got = record {
  put = put;
  asked = asked;
  heard = heard;
  on = on;
  got = got;
  later =
      let before = ap (λ (ts : List Turn). length ts) put.are in
      let since = ap (λ (ts : List Turn). length ts) heard.goes_on.is in
      let link = length-append put.so_far (put.link ∷ []) in
      let rest = length-append (put.so_far ++ put.link ∷ []) put.rest in
      let more = length-append writer.view.past heard.goes_on.more in
      let after = got.later in
      omega (arith, before, since, link, rest, more, after);
}
