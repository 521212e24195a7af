-- what was taken after one put more
use Rattle.std.proofs.Common.{◌≡◌, ℕ, ◌+◌, List, ◌++◌, take, drop, Option, Some, None, sym, ap, ◌∙◌, append_assoc, take-add}
use Rattle.std.specs.Option.{option_map}

pub taken_more : {X : Type 0} (before mid after : Option (List X)) (text : List X) (w n : ℕ) → mid ≡ option_map (λ t. t ++ take w text) before → after ≡ option_map (λ t. t ++ take n (drop w text)) mid → after ≡ option_map (λ t. t ++ take (w + n) text) before
taken_more None mid after text w n e f = f ∙ ap (option_map (λ t. t ++ take n (drop w text))) e
taken_more (Some t) mid after text w n e f = f ∙ ap (option_map (λ t. t ++ take n (drop w text))) e ∙ ap Some (append_assoc t (take w text) (take n (drop w text)) ∙ ap (λ u. t ++ u) (sym (take-add w n text)))
