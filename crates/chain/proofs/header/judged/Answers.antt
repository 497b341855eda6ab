use Rattle.std.proofs.Common.{◌≡◌, sym, ap, ◌∙◌, length}
use Rattle.std.proofs.lemmas.Result.{IfOk-from_err}
use Rattle.answers.specs.Rules.{first_broken}
use Rattle.chain.specs.Header.{Header, field_rules, image_rules, image_length}
use Rattle.chain.proofs.JudgingLaws.{header-short, begins-otherwise, fields-refuse, length-refuses, none-refuses, first-behind}
use Rattle.chain.proofs.PassLaws.{passes-own}
use Rattle.chain.proofs.header.judged.Goals as goal
use Rattle.chain.proofs.header.judged.Goals.{then-approved-lt36-via-then-approved-lt36, then-approved-lt36-via-else-approved-lt36+then-not-starts_with}

pub returns-then-approved-lt36 : goal.returns-then-approved-lt36
returns-then-approved-lt36 c =
    let a = c.args in
    record {
      code = elim c.then-approved-lt36.branch [
        | then-approved-lt36-via-then-approved-lt36 w ↦ header-short a.image.now a.approved.now a.signature w.if-approved-lt36.true
        | then-approved-lt36-via-else-approved-lt36+then-not-starts_with w ↦
            begins-otherwise a.image.now a.approved.now a.signature w.if-approved-lt36.false w.starts_with.ensures.value
            w.if-not-starts_with.true
      ];
      image = tt;
    }

pub returns-in_err-judge_fields : goal.returns-in_err-judge_fields
returns-in_err-judge_fields c =
    let a = c.args in
    record {
      code = fields-refuse a.image.now a.approved.now a.signature c.if-approved-lt36.false c.starts_with.ensures.value c.if-not-starts_with.false
          c.from_residual.result c.in_err-judge_fields.field-0.0 c.from_residual.ensures.1
          (c.in_err-judge_fields.ensures
          ∙ ap (λ (d : Header). first_broken (field_rules d (length a.approved.now) a.signature)) c.header_of-h.ensures);
      image = IfOk-from_err c.from_residual.result _ c.from_residual.ensures.0;
    }

pub returns-then-image-image_length : goal.returns-then-image-image_length
returns-then-image-image_length c =
    let a = c.args in
    record {
      code = length-refuses a.image.now a.approved.now a.signature c.if-approved-lt36.false c.starts_with.ensures.value c.if-not-starts_with.false
          (c.in_ok-judge_fields.ensures
          ∙ ap (λ (d : Header). first_broken (field_rules d (length a.approved.now) a.signature)) c.header_of-h.ensures)
          (λ e. c.if-image-image_length.true (e ∙ sym (c.image_length.ensures ∙ ap image_length c.header_of-h.ensures)));
      image = tt;
    }

pub invariant_of-result : goal.invariant_of-result
invariant_of-result c =
    let a = c.args in
    let z : first_broken (image_rules a.image.now a.approved.now a.signature) ≡ 0 =
    none-refuses a.image.now a.approved.now a.signature c.if-approved-lt36.false c.starts_with.ensures.value c.if-not-starts_with.false
    (c.in_ok-judge_fields.ensures
    ∙ ap (λ (d : Header). first_broken (field_rules d (length a.approved.now) a.signature)) c.header_of-h.ensures)
    (c.if-image-image_length.false ∙ c.image_length.ensures ∙ ap image_length c.header_of-h.ensures) in
    record {
      passes = passes-own a.image.now a.approved.now a.signature z;
      offset = first-behind a.image.now a.approved.now a.signature z;
      numbers = ap (λ (d : Header). d.stream) c.header_of-h.ensures;
    }
