-- What stood in specs/Plain and rests on theorems there: moved, its statements unchanged. Rests on `Plain`.
use Rattle.std.specs.Prelude.{◌≡◌, true, false, ℕ}
use Rattle.std.proofs.Common.{sym, ap, subst, ◌∙◌}
use Rattle.answers.specs.Said.{value}
use Rattle.answers.specs.declared.Reply.{Reply}
use Rattle.answers.specs.declared.Reply.TheVariants.{At as at, Done as ok}
use Rattle.bits.specs.Range.{within_found, within_named}
use Rattle.slots.specs.Sets.{Slots, painted, AllFree}
use Rattle.slots.specs.Kinds.{plain, turned, turned_named, turned_painted}
use Rattle.slots.specs.Lowest.{lowest}
use Rattle.slots.specs.Calls.{says}
use Rattle.slots.specs.Promises as Promises
use Rattle.slots.proofs.Promises as Promises'
use Rattle.slots.specs.Promises.{InRange}
use Rattle.slots.specs.Records.{Entry}
use Rattle.slots.specs.Family.{Bridge, Family}
use Rattle.slots.specs.Plain.{Asked, call_of, entry_of, asked_for, entry_asked, take, claim, free}

module _ (k : ℕ) (S : Slots) where
  abbrev Bridged : Asked → Entry → Type 0
  Bridged c e = Bridge plain k Asked (call_of k) asked_for S c e

  claimed : (c : Asked) (s n : ℕ) → InRange k s n → AllFree S s n → (call_of k S c).after ≡ painted S s n true
      → Bridged c (record { used = true; start = s; entries = n })
  claimed c s n range none left = record {
    range = range;
    turns = λ i t. none i (within_found s n i t);
    leaves_as = left ∙ sym (turned_painted S s n true);
    keeps = tt;
    replays = (Promises'.claim_promise k S s n).1 (range, none);
    undoes = (Promises'.free_promise k (turned plain S s n true) s n).1 (range, λ i h. turned_named plain S s n true i (within_named s n i h));
  }

  pub bridge : (c : Asked) (reply : Reply) → says (call_of k S c) ≡ value reply → Bridged c (entry_of c reply)
  bridge (take n a) reply e =
      let o = lowest k S n a in
      let said = e in
      let start : at o ≡ reply = (((Promises'.take_decided k S n a).accepts reply).0 said).1 in
      let granted = said ∙ ap value (sym start) in
      let promised = (Promises'.take_promise k S n a o).0 granted in
      subst (λ (r : Reply). Bridged (take n a) (entry_of (take n a) r)) start
      (claimed (take n a) o n (promised.0, promised.3.fits.ends) promised.3.fits.free (Promises'.take_after k S n a o granted))
  bridge (claim s n) reply e =
      let said = e in
      let same : ok ≡ reply = (((Promises'.claim_decided k S s n).accepts reply).0 said).1 in
      let promised = (Promises'.claim_promise k S s n).0 (said ∙ ap value (sym same)) in
      claimed (claim s n) s n promised.0 promised.1 (Promises.claim_after k S s n)
  bridge (free s n) reply e =
      let said = e in
      let same : ok ≡ reply = (((Promises'.free_decided k S s n).accepts reply).0 said).1 in
      let promised = (Promises'.free_promise k S s n).0 (said ∙ ap value (sym same)) in
      record {
        range = promised.0;
        turns = λ i t. promised.1 i (within_found s n i t);
        leaves_as = Promises.free_after k S s n ∙ sym (turned_painted S s n false);
        keeps = tt;
        replays = e ∙ ap value (sym same);
        undoes = (Promises'.claim_promise k (turned plain S s n false) s n).1 (promised.0, λ i h. turned_named plain S s n false i (within_named s n i h));
      }

abbrev pub plain_calls : (k : ℕ) → Family plain k
plain_calls k = record { Asked = Asked; call_of = call_of k; entry_of = entry_of; asked_for = asked_for; entry_asked = entry_asked; bridge = λ S right. bridge k S }
