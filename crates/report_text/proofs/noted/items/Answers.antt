use Rattle.std.proofs.Common.{◌≡◌, List, [], ◌∷◌, ◌++◌, length, sym, ap, subst, ◌∙◌, arith}
use Rattle.std.proofs.lemmas.List.{length_push}
use Rattle.std.proofs.lemmas.Bool.{true≢false}
use Rattle.level_table.specs.declared.reason.Item.{Item}
use Rattle.report_text.specs.Rules.{KeepItems}
use Rattle.report_text.proofs.Kept.{LeftItems, first_item, item_taken, items_end, items_full, keep_more}
use Rattle.report_text.proofs.noted.items.Goals as goal

pub loop-kept-init : goal.loop-kept-init
loop-kept-init c =
    let one : c.push.new.self ≡ c.item.result ∷ [] = c.push.ensures ∙ ap (λ (xs : List Item). xs ++ c.item.result ∷ []) c.new-items.ensures in
    record {
      count = ap length one;
      keeps = subst (KeepItems c.args.sizes) (sym one) (c.item.ensures.keeps, tt);
      read = λ list rest l few k end e.
          subst (λ (xs : List Item). LeftItems c.args.sizes list xs rest c.item.new.words) (sym one) (first_item c.args.sizes list rest c.args.words.now c.item.new.words c.item.result l k e c.item.ensures.read);
    }

pub loop-kept-preserved : goal.loop-kept-preserved
loop-kept-preserved c =
    let more = c.push-in-loop-kept.ensures in
    record {
      count = omega (arith, c.loop-kept.invariant.count, ap length more, length_push c.loop-kept.items c.item-in-loop-kept.result);
      keeps = subst (KeepItems c.args.sizes) (sym more) (keep_more c.args.sizes c.loop-kept.items c.item-in-loop-kept.result c.loop-kept.invariant.keeps c.item-in-loop-kept.ensures.keeps);
      read = λ list rest l few k end e.
          subst (λ (xs : List Item). LeftItems c.args.sizes list xs rest c.item-in-loop-kept.new.words) (sym more)
          (item_taken c.args.sizes list c.loop-kept.items rest c.loop-kept.words c.item-in-loop-kept.new.words c.item-in-loop-kept.result
          (c.loop-kept.invariant.read list rest l few k end e) end (λ h. true≢false (sym (c.ends_items.ensures.1 h) ∙ c.if-ends_items.false)) c.item-in-loop-kept.ensures.read);
    }

pub returns-then-ends_items-clause-read : goal.returns-then-ends_items-clause-read
returns-then-ends_items-clause-read c = λ list rest l few k end e.
    items_end c.args.sizes list c.loop-kept.items rest c.loop-kept.words (c.loop-kept.invariant.read list rest l few k end e) (c.ends_items.ensures.0 c.if-ends_items.true)

pub returns-clause-read : goal.returns-clause-read
returns-clause-read c = λ list rest l few k end e.
    items_full c.args.sizes list c.loop-kept.items rest c.loop-kept.words (c.loop-kept.invariant.read list rest l few k end e) (omega (arith, c.loop-kept.invariant.count, c.loop-kept-test.false, few))
