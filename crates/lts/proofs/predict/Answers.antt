-- `lts::predict` meets its contract: the sections and the word are refused first, in this order. Assumes nothing.
use Rattle.std.proofs.Common.{◌≡◌, true, rules, refl, sym, ◌∙◌, Some, None, Err}
use Rattle.answers.specs.declared.Refusal.TheVariants.{Section}
use Rattle.texts.specs.Text.{word_short}
use Rattle.lts_spec.specs.Letters.{is_trees}
use Rattle.lts_spec.specs.Call.{predict, predicted}
use Rattle.lts.proofs.predict.Goals as goal

pub returns-in_err-trees : goal.returns-in_err-trees
unfolding predict predicted
returns-in_err-trees c =
    let n : c.read.result ≡ None = search rules in
    let t = rw n at c.read.ensures in
    let e : c.from_residual.result ≡ Err Section = search rules in
    record { result_value = rw (t, e); out_after = rw t }

pub returns-then-not-is_word : goal.returns-then-not-is_word
unfolding predict predicted
returns-then-not-is_word c =
    let trees = c.in_ok-trees.trees in
    let s : c.read.result ≡ Some trees = search rules in
    let r = rw s at c.read.ensures in
    let t : is_trees c.args.phones.now c.args.index.now c.args.model.now ≡ true = rw (r.0, r.1, r.2) at trees.are_trees in
    let w = sym c.is_word.ensures ∙ c.if-not-is_word.true in
    record { result_value = rw (t, w); out_after = rw (t, w) }

pub spell_out-requires : goal.spell_out-requires
spell_out-requires c = (word_short c.args.word.now (sym c.is_word.ensures ∙ c.if-not-is_word.false), refl)

pub returns : goal.returns
unfolding predict predicted
returns c =
    let trees = c.in_ok-trees.trees in
    let s : c.read.result ≡ Some trees = search rules in
    let r = rw s at c.read.ensures in
    let t : is_trees c.args.phones.now c.args.index.now c.args.model.now ≡ true = rw (r.0, r.1, r.2) at trees.are_trees in
    let w = sym c.is_word.ensures ∙ c.if-not-is_word.false in
    let out = rw (r.0, r.1, r.2) at c.spell_out.ensures in
    record { result_value = rw (t, w) out.result_value; out_after = rw (t, w) out.out_after }
