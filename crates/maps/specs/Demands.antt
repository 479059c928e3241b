-- That every map which keeps the trait meets the owner's demands, through its view: one value of `Demands` for all of them; and that each contract
-- leaves one outcome. Rests on `Says`.
use Rattle.std.specs.Prelude.{◌≡◌, Bool, ℕ, Result}
use Rattle.std.proofs.Common.{sym, ◌∙◌}
use Rattle.answers.specs.Answers.{answer_says}
use Rattle.answers.proofs.Answers.{answer_says_injective}
use Rattle.answers.specs.declared.Refusal.{Refusal}
use Rattle.answers.specs.declared.Changed.{Changed}
use Rattle.slots.specs.Calls.{take_call, claim_call, free_call, set_call}
use Rattle.slots.specs.Kinds.{plain}
use Rattle.slots.specs.View.{View}
use Rattle.slots.proofs.Demands.{Demands, demanded}
use Rattle.word.specs.declared.Word.{Word}
use Rattle.word.specs.Layout.{word_view}
use Rattle.tree.specs.declared.Tree.{Tree}
use Rattle.tree.specs.Layout.{tree_view}
use Rattle.third.specs.declared.Third.{Third}
use Rattle.third.specs.Layout.{third_view}
use Rattle.maps.specs.Says.{TakeSays, ClaimSays, FreeSays, SetSays, NextFreeSays, GetSays, EmptySays, UsedSays, CapacitySays}

pub map_demands : {M : Type 0} (L : View plain) (held : M → L.Map) → ((m q : M) → held m ≡ held q → m ≡ q)
    → Demands L (Changed Refusal M) (λ r. answer_says r.answer) (λ r. held r.map)
map_demands {M} L held known = demanded L (Changed Refusal M) (λ r. answer_says r.answer) (λ r. held r.map)
    (λ r q says leaves. λ i. record { answer = answer_says_injective r.answer q.answer says i; map = known r.map q.map leaves i })

-- ---- the maps of the project: each is its own map of the view, so these are the demands that the word, the tree and the third level meet by themselves

pub of_words : Demands word_view (Changed Refusal Word) (λ r. answer_says r.answer) (λ r. r.map)
of_words = map_demands word_view (λ map. map) (λ one other same. same)

pub of_trees : Demands tree_view (Changed Refusal Tree) (λ r. answer_says r.answer) (λ r. r.map)
of_trees = map_demands tree_view (λ map. map) (λ one other same. same)

pub of_thirds : Demands third_view (Changed Refusal Third) (λ r. answer_says r.answer) (λ r. r.map)
of_thirds = map_demands third_view (λ map. map) (λ one other same. same)

-- ---- any two outcomes that a contract allows coincide

module _ {M : Type 0} (L : View plain) (held : M → L.Map) (known : (m q : M) → held m ≡ held q → m ≡ q) where
  pub take_one_answer : (m : M) (n a : ℕ) (r q : Changed Refusal M) → TakeSays L held m n a r → TakeSays L held m n a q → r ≡ q
  take_one_answer m n a = ((map_demands L held known).of_any (held m)).one_answer (take_call L.k (L.state_of (held m)) n a)

  pub claim_one_answer : (m : M) (start n : ℕ) (r q : Changed Refusal M) → ClaimSays L held m start n r → ClaimSays L held m start n q → r ≡ q
  claim_one_answer m start n = ((map_demands L held known).of_any (held m)).one_answer (claim_call L.k (L.state_of (held m)) start n)

  pub free_one_answer : (m : M) (start n : ℕ) (r q : Changed Refusal M) → FreeSays L held m start n r → FreeSays L held m start n q → r ≡ q
  free_one_answer m start n = ((map_demands L held known).of_any (held m)).one_answer (free_call L.k (L.state_of (held m)) start n)

  pub set_one_answer : (m : M) (start n : ℕ) (used : Bool) (r q : Changed Refusal M) → SetSays L held m start n used r → SetSays L held m start n used q → r ≡ q
  set_one_answer m start n used = ((map_demands L held known).of_any (held m)).one_answer (set_call L.k (L.state_of (held m)) start n used)

module _ {M : Type 0} (L : View plain) (held : M → L.Map) where
  pub next_free_one_answer : (m : M) (start : ℕ) (r q : Result ℕ Refusal) → NextFreeSays L held m start r → NextFreeSays L held m start q → r ≡ q
  next_free_one_answer m start r q p o = answer_says_injective r q (p ∙ sym o)

  pub get_one_answer : (m : M) (slot : ℕ) (r q : Result Bool Refusal) → GetSays L held m slot r → GetSays L held m slot q → r ≡ q
  get_one_answer m slot r q p o = answer_says_injective r q (p ∙ sym o)

  pub empty_one_answer : (m : M) (r q : Result Bool Refusal) → EmptySays L held m r → EmptySays L held m q → r ≡ q
  empty_one_answer m r q p o = answer_says_injective r q (p ∙ sym o)

  pub used_one_answer : (m : M) (r q : Result ℕ Refusal) → UsedSays L held m r → UsedSays L held m q → r ≡ q
  used_one_answer m r q p o = answer_says_injective r q (p ∙ sym o)

pub capacity_one_answer : (L : View plain) (r q : ℕ) → CapacitySays L r → CapacitySays L q → r ≡ q
capacity_one_answer L r q p o = p ∙ sym o
