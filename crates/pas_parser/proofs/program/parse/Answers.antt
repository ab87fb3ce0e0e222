use Rattle.pas_parser.proofs.Whole.{is_program, is_shallow, has_few_parts, lies_within, is_ordered, numbers_pass, fits_text}
use Rattle.pas_parser.proofs.program.parse.Goals as goal

pub returns-clause-grammar : goal.returns-clause-grammar
returns-clause-grammar c = is_program c.args.tokens.now c.program.result c.program.ensures.value

pub returns-clause-depth : goal.returns-clause-depth
returns-clause-depth c = is_shallow c.args.tokens.now c.program.result c.program.ensures.value

pub returns-clause-parts : goal.returns-clause-parts
returns-clause-parts c = has_few_parts c.args.tokens.now c.program.result c.program.ensures.value

pub returns-clause-numbers : goal.returns-clause-numbers
returns-clause-numbers c = numbers_pass c.args.tokens.now c.program.result c.program.ensures.value

pub returns-clause-spans : goal.returns-clause-spans
returns-clause-spans c = lies_within c.args.tokens.now c.program.result c.program.ensures.value

pub returns-clause-order : goal.returns-clause-order
returns-clause-order c = is_ordered c.args.tokens.now c.program.result c.program.ensures.value

pub returns-clause-text : goal.returns-clause-text
returns-clause-text c = fits_text c.args.tokens.now c.program.result c.program.ensures.value
