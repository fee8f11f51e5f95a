use Rattle.std.proofs.Common.{◌∙◌, ◌^◌, ◌-◌, [], false, Some, ap}
use Rattle.std.specs.Fmt.{format_spec, padded_integral, styled_digits_output}
use Rattle.std.specs.Option.{option_map}
use Rattle.std.specs.Prelude.{string_bytes}
use Rattle.em_show.specs.Show.{hexadecimal}
use Rattle.em_show.proofs.PaddedDigits.{appended, padded-digits}
use Rattle.em_show.proofs.texts.put_hexadecimal.Goals as goal

pub returns : goal.returns
returns c =
    let spec = format_spec 32 0 4 8 (2 ^ 64 - 1) in
    let out = ap (λ s. styled_digits_output c.in_radix.result s) c.laid_out.ensures ∙ ap (option_map (padded_integral spec false [])) c.in_radix.ensures ∙ ap Some (padded-digits c.args.number) in
    appended (string_bytes c.args.text.now) (string_bytes c.write.new.self) (hexadecimal c.args.number) (styled_digits_output c.in_radix.result c.laid_out.result) out c.in_ok-write.ensures.bytes
