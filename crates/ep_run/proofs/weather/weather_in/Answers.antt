use Rattle.std.proofs.Common.{◌≡◌, ◌∙◌, ℕ, List, [], ◌∷◌, ◌++◌, take, ap, sym}
use Rattle.std.proofs.lemmas.List.{take_all}
use Rattle.ep_host.specs.declared.weather.Weather.{Weather}
use Rattle.ep_script.specs.declared.weather_line.WeatherLine.{WeatherLine}
use Rattle.ep_run.specs.Weathers.{weather_in}
use Rattle.ep_run.proofs.Weathering.{line_more}
use Rattle.ep_run.proofs.weather.weather_in.Goals as goal

pub loop-line-preserved : goal.loop-line-preserved
loop-line-preserved c =
    let lines : List WeatherLine = c.args.lines.now in
    let i : ℕ = c.loop-line.line-index in
    let before : List Weather = weather_in (take i lines) in
    let last : c.push.new.self.items ≡ before ++ c.weather_of.result ∷ [] = c.in_ok-push.ensures.items ∙ ap (λ (l : List Weather). l ++ c.weather_of.result ∷ []) c.loop-line.invariant in
    last ∙ ap (λ (w : Weather). before ++ w ∷ []) c.weather_of.ensures ∙ sym (line_more lines i c.line-item.result c.loop-line-test.true c.line-item.is)

pub returns : goal.returns
returns c = c.loop-line.invariant ∙ ap weather_in (take_all c.loop-line.line-index c.args.lines.now c.loop-line-test.false)
