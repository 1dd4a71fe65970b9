-- Refused means unchanged, for the forecast: nothing is lent to it that it could change.
use Rattle.lists.proofs.Prelude.{List, ℕ, refl}
use Rattle.answers.specs.Unchanged.{Unchanged}
use Rattle.state.specs.declared.State.{State}
use Rattle.forecasts.specs.Outlook.{forecast_of}

-- there is nothing but one thing to be left
pub forecast-unchanged : (s : State) (register plan counts : List ℕ) → Unchanged tt (forecast_of s register plan counts)
forecast-unchanged s register plan counts = record { same = λ n e. refl }
