mod OpenAbove
mod CountedPairs
mod ChainSteps
mod PackageRows
mod PackageRuns
mod FreeRuns
