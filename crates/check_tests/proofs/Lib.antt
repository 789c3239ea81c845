mod Fronts
mod Faults
