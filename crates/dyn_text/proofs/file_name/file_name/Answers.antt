use Rattle.std.proofs.Common.{◌≡◌, ℕ, Bool, true, false, List, Option, Some, None, refl, sym, ap, subst, ◌∙◌, if◌then◌else◌}
use Rattle.std.specs.Str.{IsUtf8, is_utf8}
use Rattle.std.proofs.lemmas.Bool.{true≢false}
use Rattle.std.proofs.lemmas.Str.{IsUtf8-string_bytes, is_utf8-from_IsUtf8, IsUtf8-from_is_utf8}
use Rattle.dyn_text.specs.Grammar.{name_of}
use Rattle.dyn_text.proofs.file_name.file_name.Goals as goal

some_name : (t u : List ℕ) → t ≡ u → IsUtf8 t → Some t ≡ name_of u
some_name t u p h =
    let e : is_utf8 u ≡ true = is_utf8-from_IsUtf8 u (subst IsUtf8 p h) in
    let kept : Bool → Option (List ℕ) = λ b. if b then Some u else None in
    ap (λ x. Some x) p ∙ sym (ap kept e)

no_name : (t u : List ℕ) → t ≡ u → (IsUtf8 t → false ≡ true) → None ≡ name_of u
no_name t u p h =
    let kept : Bool → Option (List ℕ) = λ b. if b then Some u else None in
    let by : (b : Bool) → is_utf8 u ≡ b → None ≡ kept b =
    λ b. elim b as (λ b. is_utf8 u ≡ b → None ≡ kept b) [
      | true ↦ λ e. absurd (true≢false (sym (h (subst IsUtf8 (sym p) (IsUtf8-from_is_utf8 u e)))))
      | false ↦ λ e. refl
    ] in
    by (is_utf8 u) refl

pub returns-in-Ok : goal.returns-in-Ok
returns-in-Ok c = some_name _ _ (ap (λ v. v.items) c.in-Ok.ensures.ok ∙ c.in_ok-bytes.ensures) (IsUtf8-string_bytes c.in-Ok.text)

pub returns : goal.returns
returns c = no_name _ _ c.in_ok-bytes.ensures c.in-Err.ensures.succeeds
